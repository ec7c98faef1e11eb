-- `converters::edge_count` meets its contract: the record's count.
use mathlib.Core.Path.{◌∙◌}
use Rattle.layout.proofs.ConverterBytes.{edges_at}
use Rattle.refusals.proofs.converters.edge_count.Goals as goal

pub returns : goal.returns
returns c =
    c.read_byte.ensures ∙ edges_at c.args.s.now c.args.c c.requires
