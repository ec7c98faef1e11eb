-- `converters::record` meets its contract.
use mathlib.Core.Path.{ap, ◌∙◌}
use Rattle.layout.specs.Records.{node_of}
use Rattle.layout.proofs.ConverterBytes.{node_at}
use Rattle.refusals.proofs.converters.record.Goals as goal

pub returns : goal.returns
returns c = ap node_of c.read_record.ensures ∙ node_at c.args.s.now c.args.c c.requires
