-- `records::same_events` meets its contract.
use Rattle.std.proofs.Common.{◌∙◌}
use Rattle.layout.proofs.ListTests.{pointwise_is_same_events}
use Rattle.layout.proofs.records.same_events.Goals as goal

pub returns : goal.returns
returns c = c.eq.ensures ∙ pointwise_is_same_events c.args.x c.args.y
