-- `can_show` meets its contract, by the event's sign.
use mathlib.Core.Path.{sym, ap, ◌∙◌}
use Rattle.layout.specs.Tests.{in_range}
use Rattle.layout.proofs.SignedBytes.{read_back}
use Rattle.runner.proofs.Shown.{above, not_above}
use Rattle.runner.proofs.can_show.Goals as goal

pub returns-then-x-le0 : goal.returns-then-x-le0
returns-then-x-le0 c =
    let e = read_back c.args.x c.ranges.x.sfits in
    c.in_range.ensures ∙ ap in_range e ∙ not_above c.args.x (rw e at c.if-x-le0.true)

pub returns-else-x-le0 : goal.returns-else-x-le0
returns-else-x-le0 c = c.if-x-le0.false ∙ sym (above c.args.x (rw (read_back c.args.x c.ranges.x.sfits) at c.if-x-le0.false))
