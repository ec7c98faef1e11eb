-- `design_tests::asked_at` meets its contract: a block of a side, the formulas, or the rules.
use mathlib.Core.Path.{◌≡◌, refl, sym, ap, ◌∙◌}
use mathlib.Core.List.{[], ◌∷◌}
use Prim.Native.Nat.{ℕ, zero, suc, ◌<◌}
use native.Mathlib.Omega.{arith}
use lib.ListN.{get_or}
use Rattle.layout.specs.Sizes.{side_count, most_states}
use Rattle.layout.specs.Designs.{side_block}
use Rattle.refusals.specs.declared.design_tests.Asked.{Asked}
use Rattle.refusals.specs.Counted.{asked_of}
use Rattle.refusals.proofs.DesignBlocks.{side_is, formulas_is, rules_is}
use Rattle.refusals.proofs.design_tests.asked_at.Goals as goal

-- a side's block by the table of kinds
of_side : (i : ℕ) → i < side_count → ◌≡◌ {A = Asked} (record { kind = get_or (1 ∷ 2 ∷ 6 ∷ []) i 0; least = 1; most = most_states }) (asked_of (side_block i))
of_side zero h = refl
of_side (suc zero) h = refl
of_side (suc (suc zero)) h = refl
of_side (suc (suc (suc i))) h = absurd (omega arith)

pub returns-then-i-n : goal.returns-then-i-n
returns-then-i-n c =
    let few = c.requires.0 in
    of_side c.args.i (omega arith) ∙ sym (ap asked_of (side_is c.args.n few c.args.i c.if-i-n.true))

pub returns-then-i-n-2 : goal.returns-then-i-n-2
returns-then-i-n-2 c = sym (ap asked_of (formulas_is c.args.n c.requires.0 c.args.i c.if-i-n-2.true))

pub returns-else-i-n-2 : goal.returns-else-i-n-2
returns-else-i-n-2 c = sym (ap asked_of (rules_is c.args.n c.requires.0 c.args.i (omega (arith, c.if-i-n-2.false))))
