-- `converters::edge_at` meets its contract: the record's place.
use mathlib.Core.Path.{ap, ◌∙◌}
use Rattle.layout.specs.Records.{edge_of}
use Rattle.layout.proofs.ConverterBytes.{edge_read}
use Rattle.refusals.proofs.converters.edge_at.Goals as goal

pub returns : goal.returns
returns c =
    let a = c.args in
    let p = c.requires in
    ap edge_of c.read_transition.ensures ∙ edge_read a.s.now a.c p.0 a.k p.1 p.2
