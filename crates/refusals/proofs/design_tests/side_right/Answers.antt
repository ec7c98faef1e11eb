-- `design_tests::side_right` meets its contract: state by state.
use mathlib.Core.Path.{sym, ap, ◌∙◌}
use mathlib.Core.Bool.{Bool}
use Prim.Native.Nat.{ℕ}
use native.Mathlib.Omega.{arith}
use borrow.Author.Tests.{tests}
use Rattle.std.proofs.Common.{rules}
use Rattle.layout.specs.States.{state_of}
use Rattle.layout.specs.Designs.{stored_state}
use Rattle.layout.specs.Tests.{state_right, side_right}
use Rattle.layout.proofs.DesignBytes.{stored_state_is}
use Rattle.refusals.proofs.Ranges.{every_from_all, every_cong}
use Rattle.refusals.proofs.design_tests.side_right.Goals as goal

pub returns : goal.returns
unfolding side_right
returns c =
    let s = c.args.s.now in
    let i = c.args.i in
    let n = c.state_count-n.result in
    let right : ℕ → Bool = λ k. state_right n (state_of (stored_state s i k)) in
    rw (sym c.state_count-n.ensures)
    (every_from_all right n _ _ _ c.all.ensures.ran (cc) (λ x b q k. search (rules, tests))
    ∙ every_cong right _ n (λ k h. ap (state_right n) (stored_state_is s i k c.requires.1 (omega (arith, c.state_count-n.ensures)))))
