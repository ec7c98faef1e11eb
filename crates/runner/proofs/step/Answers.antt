-- `step` meets its contract: what the tests say, and behind them the transition that is taken.
use mathlib.Core.Path.{◌≡◌, sym, ap, ap₂, ◌∙◌}
use mathlib.Core.List.{List, [], ◌∷◌}
use native.Mathlib.Omega.{arith}
use borrow.Author.Rules.{rules}
use mir.Syntax.{w8}
use mir.Val.{to_z, of_z}
use Rattle.std.specs.Prelude.{Err}
use Rattle.model.specs.Events.{Event}
use Rattle.model.specs.Converters.{node}
use Rattle.model.specs.Runs.{first_fit}
use Rattle.layout.specs.Converters.{converter}
use Rattle.refusals.proofs.Answered.{number_some}
use Rattle.runner.specs.Ticks.{tick_refusal, refused, taken, ticked_as}
use Rattle.runner.proofs.Shown.{read_again}
use Rattle.runner.proofs.Refusals.{passes, goes_on, stays}
use Rattle.runner.proofs.step.Goals as goal
use Rattle.runner.proofs.step.Goals.{After-from-c, Start}

-- what is shown
abbrev shown : Start → List Event
shown c = c.args.first ∷ c.args.second ∷ c.args.third ∷ []

-- as the machine reads it back
abbrev again : Event → Event
again x = to_z w8 (of_z w8 x)

-- what the tests are of
tests : (c : After-from-c) → let a = c.args in
    tick_refusal a.converter.now c.from-c.result (again a.first ∷ again a.second ∷ again a.third ∷ []) ≡ tick_refusal a.converter.now a.runner.«record» (a.first ∷ a.second ∷ a.third ∷ [])
tests c =
    let r = c.ranges in
    ap₂ (tick_refusal c.args.converter.now) c.from-c.ensures (read_again c.args.first c.args.second c.args.third r.first r.second r.third)

pub returns-in_err-tick_refusal : goal.returns-in_err-tick_refusal
returns-in_err-tick_refusal c =
    let a = c.args in
    let e = c.in_err-tick_refusal.field-0.0 in
    let same : c.from_residual.result ≡ Err e = search rules in
    let k = c.in_err-tick_refusal.ensures ∙ tests (goal.at.returns-in_err-tick_refusal c).After-from-c in
    ap (ticked_as a.runner) same
    ∙ ap (refused a.runner) k
    ∙ sym (stays a.converter.now a.runner (shown (goal.at.returns-in_err-tick_refusal c).Start) (λ z. let n = number_some e in omega (arith, n, k, z)))

pub take_first-requires : goal.take_first-requires
take_first-requires c =
    let a = c.args in
    let p = passes a.converter.now a.runner.«record» (shown (goal.at.take_first-requires c).Start) (sym (c.in_ok-tick_refusal.ensures ∙ tests (goal.at.take_first-requires c).After-from-c)) in
    rw c.from-c.ensures (p.there, p.right)

pub returns : goal.returns
returns c =
    let a = c.args in
    let r = c.ranges in
    c.take_first.ensures
    ∙ ap₂ (λ n xs. taken a.runner (first_fit xs (node (converter a.converter.now) n).edges)) c.from-c.ensures (read_again a.first a.second a.third r.first r.second r.third)
    ∙ sym (goes_on a.converter.now a.runner (shown (goal.at.returns c).Start) (sym (c.in_ok-tick_refusal.ensures ∙ tests (goal.at.returns c).After-from-c)))
