-- `spaces_end` meets its contract. The invariant: behind the spaces from i on stands what stands behind those from `at` on.
use mathlib.Core.Path.{refl, sym, ◌∙◌}
use native.Mathlib.Omega.{arith}
use Rattle.tokens.proofs.Places.{space_passed, no_space, spaces_over}
use Rattle.tokens.proofs.spaces_end.Goals as goal

pub loop-i-init : goal.loop-i-init
loop-i-init c = (omega arith, refl)

pub loop-i-preserved : goal.loop-i-preserved
loop-i-preserved c =
    let l = c.loop-i in
    (omega arith, sym (space_passed _ _ c.loop-i-test.true c.if-text-i-eq32.true) ∙ l.invariant.1)

pub returns-else-text-i-eq32 : goal.returns-else-text-i-eq32
returns-else-text-i-eq32 c =
    let l = c.loop-i in
    record { place = l.invariant.0; left = no_space _ _ c.loop-i-test.true c.if-text-i-eq32.false ∙ l.invariant.1 }

pub returns-after-loop-i : goal.returns-after-loop-i
returns-after-loop-i c =
    let l = c.loop-i in
    record { place = l.invariant.0; left = spaces_over _ _ c.loop-i-test.false ∙ l.invariant.1 }
