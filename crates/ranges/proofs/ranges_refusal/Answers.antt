-- `ranges_refusal` meets its contract: 1 to 8, 22, 23 and 12, one after the other.
use mathlib.Core.Path.{◌≡◌, sym, ap, ◌∙◌}
use mathlib.Core.Bool.{true}
use borrow.Author.Rules.{rules}
use native.Mathlib.Omega.{arith}
use borrow.Author.Tests.{le-leb, lt-leb}
use lib.ListN.{length}
use Rattle.std.specs.Prelude.{Err}
use Rattle.refusals.specs.Answered.{refusal_of}
use Rattle.refusals.proofs.Answered.{number_some}
use Rattle.ranges.specs.Entries.{list_right, sides_fit}
use Rattle.ranges.proofs.Refused.{design_refused, behind_design}
use Rattle.ranges.proofs.ranges_refusal.Goals as goal
use Rattle.ranges.proofs.ranges_refusal.Goals.{Else-not-list_right, Else-not-sides_fit}

-- ---- what has passed
listed : (c : Else-not-list_right) → let a = c.args in list_right a.design.now a.list.now ≡ true
listed c = sym c.list_right.ensures ∙ c.if-not-list_right.false

fitted : (c : Else-not-sides_fit) → let a = c.args in sides_fit a.design.now a.list.now ≡ true
fitted c = sym c.sides_fit.ensures ∙ c.if-not-sides_fit.false

pub returns-in_err-design_refusal : goal.returns-in_err-design_refusal
returns-in_err-design_refusal c =
    let a = c.args in
    let e = c.in_err-design_refusal.field-0.0 in
    let same : c.from_residual.result ≡ Err e = search rules in
    let number = c.in_err-design_refusal.ensures in
    ap refusal_of same ∙ number ∙ sym (design_refused a.design.now a.list.now a.room (λ z. let n = number_some e in omega (arith, n, number, z)))

pub returns-then-not-list_right : goal.returns-then-not-list_right
returns-then-not-list_right c =
    let a = c.args in
    let wrong = sym c.list_right.ensures ∙ c.if-not-list_right.true in
    sym (behind_design a.design.now a.list.now a.room (sym c.in_ok-design_refusal.ensures) ∙ rw wrong)

pub returns-then-not-sides_fit : goal.returns-then-not-sides_fit
returns-then-not-sides_fit c =
    let a = c.args in
    let many = sym c.sides_fit.ensures ∙ c.if-not-sides_fit.true in
    sym (behind_design a.design.now a.list.now a.room (sym c.in_ok-design_refusal.ensures) ∙ rw (listed (goal.at.returns-then-not-sides_fit c).Else-not-list_right, many))

pub returns-then-room-design : goal.returns-then-room-design
returns-then-room-design c =
    let a = c.args in
    sym
    (behind_design a.design.now a.list.now a.room (sym c.in_ok-design_refusal.ensures)
    ∙ rw (listed (goal.at.returns-then-room-design c).Else-not-list_right, fitted (goal.at.returns-then-room-design c).Else-not-sides_fit, lt-leb (length a.design.now) a.room c.if-room-design.true))

pub returns : goal.returns
returns c =
    let a = c.args in
    sym
    (behind_design a.design.now a.list.now a.room (sym c.in_ok-design_refusal.ensures)
    ∙ rw (listed (goal.at.returns c).Else-not-list_right, fitted (goal.at.returns c).Else-not-sides_fit, le-leb (length a.design.now) a.room c.if-room-design.false))
