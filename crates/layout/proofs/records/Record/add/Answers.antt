-- `Record::add` meets its contract, by what `has` and the count say.
use Rattle.std.proofs.Common.{sym, ◌∙◌, arith, le-ltb, lt-ltb}
use Rattle.layout.specs.Records.{added}
use Rattle.layout.proofs.records.Record.add.Goals as goal

pub returns-then-has : goal.returns-then-has
unfolding added
returns-then-has c = rw (sym c.has.ensures ∙ c.if-has.true)

pub returns-then-n-lt-PLACES : goal.returns-then-n-lt-PLACES
unfolding added
returns-then-n-lt-PLACES c =
    rw (sym c.has.ensures ∙ c.if-has.false, lt-ltb c.args.self.count 8 (omega arith), c.from-n.ensures)

pub returns-else-n-lt-PLACES : goal.returns-else-n-lt-PLACES
unfolding added
returns-else-n-lt-PLACES c =
    rw (sym c.has.ensures ∙ c.if-has.false, le-ltb c.args.self.count 8 (omega arith))
