-- `fits_event` meets its contract, by the shown event's sign.
use mathlib.Core.Path.{sym, ap, ◌∙◌}
use mir.Syntax.{w8}
use mir.Val.{to_z, of_z}
use Rattle.model.specs.Runs.{fits}
use Rattle.layout.proofs.SignedBytes.{read_back}
use Rattle.runner.proofs.Shown.{same_bits, fits_none, fits_zero, fits_same}
use Rattle.runner.proofs.fits_event.Goals as goal

pub returns-then-shown-eq0 : goal.returns-then-shown-eq0
returns-then-shown-eq0 c =
    let a = c.args in
    rw (read_back a.event c.ranges.event.sfits)
    (fits_zero a.event ∙ ap (λ x. fits x a.event) (sym (ap (to_z w8) c.if-shown-eq0.true) ∙ read_back a.shown c.ranges.shown.sfits))

pub returns-then-shown-lt0 : goal.returns-then-shown-lt0
returns-then-shown-lt0 c =
    same_bits c.args.shown c.args.event c.ranges.shown c.ranges.event
    ∙ fits_same c.args.shown c.args.event (rw (read_back c.args.shown c.ranges.shown.sfits) at c.if-shown-lt0.true)

pub returns-else-shown-lt0 : goal.returns-else-shown-lt0
returns-else-shown-lt0 c =
    c.if-shown-lt0.false
    ∙ sym (fits_none c.args.shown c.args.event (λ q. c.if-shown-eq0.false (ap (of_z w8) q)) (rw (read_back c.args.shown c.ranges.shown.sfits) at c.if-shown-lt0.false))
