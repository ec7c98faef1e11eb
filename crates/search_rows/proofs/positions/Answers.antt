-- `positions` meets its contract: a design that isn't refused is counted.
use mathlib.Core.Path.{sym, ap, ◌∙◌}
use Rattle.refusals.specs.Answered.{refusal_of}
use Rattle.refusals.proofs.WellFormed.{accepted_counts}
use Rattle.search_rows.proofs.positions.Goals as goal

pub positions_of-requires : goal.positions_of-requires
positions_of-requires g c = accepted_counts _ (sym c.design_refusal.ensures ∙ ap refusal_of c.in-Ok.is)
