-- The sides after replacement, where nothing is refused: each is well formed and has at most 16 states, and one that has no block rests as before.
use mathlib.Core.Path.{◌≡◌, refl, ap, subst, ◌∙◌}
use mathlib.Core.Bool.{true}
use mathlib.Core.Logic.{⊎_elim}
use mathlib.Core.List.{List, [], ◌∷◌}
use Prim.Native.Nat.{ℕ, ◌≤◌, ◌<◌}
use native.Mathlib.Omega.{arith}
use borrow.Author.Tests.{leb-true}
use lib.Dec.{leb}
use lib.ListN.{length}
use Rattle.model.specs.Sides.{state, IsDelayed, WellFormedSide}
use Rattle.model.specs.Ranges.{Range, ranged, AllFit}
use Rattle.model.specs.Resting.{resting}
use Rattle.model.proofs.RangedSides.{ranged_formed}
use Rattle.layout.specs.Sizes.{side_count, most_states, block_bytes}
use Rattle.layout.specs.Designs.{held, side_block, design, side}
use Rattle.layout.proofs.Tables.{every_at}
use Rattle.layout.proofs.DesignBytes.{resting_side}
use Rattle.layout.proofs.Sealed.{length_sealed}
use Rattle.refusals.proofs.WellFormed.{side_formed}
use Rattle.ranges.specs.Entries.{side_ranges, new_side, sides_fit}
use Rattle.ranges.specs.Ranges.{ranges_refusal, states_to, ranged_block}
use Rattle.ranges.proofs.Fitting.{ranges_fit}
use Rattle.ranges.proofs.Refused.{passes}
use Rattle.ranges.proofs.StatesPut.{length_states}

-- ---- no range fits the side that rests: its one state has one move
none_fit : (rs : List Range) → AllFit resting rs → rs ≡ []
none_fit [] f = refl
none_fit (r ∷ rs) f =
    let first : r.state ≡ 0 = omega (arith, f.0.there) in
    let d = subst (λ s. IsDelayed (state resting s)) first f.0.waits.0 in
    absurd
    (⊎_elim
    (λ (e : (state resting 0).moves ≡ d.0 ∷ d.1 ∷ []). omega (arith, ap length e))
    (λ (e : (state resting 0).moves ≡ d.1 ∷ d.0 ∷ []). omega (arith, ap length e))
    d.2)

-- ---- side i
pub few_with : (ds es : List ℕ) → sides_fit ds es ≡ true → (i : ℕ) → i < side_count → length (new_side ds es i) ≤ most_states
unfolding sides_fit
few_with ds es f i h =
    leb-true (length (new_side ds es i)) most_states (every_at (λ j. leb (length (new_side ds es j)) most_states) side_count f i h)

-- so its block is one
pub block_long : (ds es : List ℕ) → sides_fit ds es ≡ true → (i : ℕ) → i < side_count → length (ranged_block ds es i) ≡ block_bytes
unfolding ranged_block
block_long ds es f i h =
    let S = new_side ds es i in
    length_sealed (side_block i).kind (length S) 0 (states_to S) (omega (arith, length_states S, few_with ds es f i h))

module _ (ds es : List ℕ) (room : ℕ) (ok : ranges_refusal ds es room ≡ 0) (i : ℕ) where
  pub fits : AllFit (side (design ds) i) (side_ranges es i)
  fits = ranges_fit ds es (passes ds es room ok).listed i

  module _ (h : i < side_count) where
    pub old_formed : WellFormedSide (side (design ds) i)
    old_formed = side_formed ds (passes ds es room ok).designed i h

    pub few_new : length (new_side ds es i) ≤ most_states
    few_new = few_with ds es (passes ds es room ok).fitting i h

    pub new_formed : WellFormedSide (new_side ds es i)
    new_formed = ranged_formed (side (design ds) i) (side_ranges es i) old_formed fits few_new

    -- a side that has no block rests
    pub new_rests : held ds ≤ i → new_side ds es i ≡ resting
    unfolding ranged
    new_rests l =
        let rests = resting_side ds i h l in
        ap (ranged (side (design ds) i)) (none_fit (side_ranges es i) (subst (λ S. AllFit S (side_ranges es i)) rests fits)) ∙ rests
