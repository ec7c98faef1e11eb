-- `records::read_record` meets its contract: the names, the count and the eight places.
use Rattle.std.proofs.Common.{rules}
use Rattle.layout.specs.Records.{no_transition, transition_at, record_at}
use Rattle.layout.proofs.Arrays.{table_from_fn}
use Rattle.layout.proofs.records.read_record.Goals as goal

pub returns : goal.returns
unfolding record_at
returns c =
    let a = c.args in
    cc (table_from_fn _ (transition_at a.s.now a.at) no_transition c.from_fn.ensures.items (λ k t q h e. search rules))
