-- `converters::names` meets its contract: the record's first bytes.
use mathlib.Core.Path.{◌∙◌}
use Rattle.layout.proofs.ConverterBytes.{names_at}
use Rattle.refusals.proofs.converters.names.Goals as goal

pub returns : goal.returns
returns c = c.read_names.ensures ∙ names_at c.args.s.now c.args.c c.requires
