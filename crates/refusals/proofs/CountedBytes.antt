-- Tests 1 and 4 leave a design whose counts are within their limits; a side that has no block has one state.
use mathlib.Core.Path.{◌≡◌, refl, ap, subst}
use mathlib.Core.Bool.{true}
use mathlib.Core.List.{List}
use Prim.Native.Nat.{ℕ, zero, suc, ◌+◌, ◌≤◌, ◌<◌}
use native.Mathlib.Decide.{dec_lt}
use native.Mathlib.Omega.{arith}
use lib.Dec.{T, leb, leb→le}
use lib.ListN.{length}
use Rattle.model.specs.Judged.{all}
use Rattle.model.proofs.Bools.{and_both}
use Rattle.model.proofs.Lists.{all_in, get_or_in}
use Rattle.layout.specs.Sizes.{side_count, other_blocks, most_states}
use Rattle.layout.specs.Blocks.{Block, kernel, formulas, rules, design_blocks, record_count}
use Rattle.layout.specs.Designs.{held, Whole, side_block, design, side}
use Rattle.refusals.specs.Counted.{block, Counted}
use Rattle.refusals.specs.Refusals.{length_right, count_right}
use Rattle.refusals.proofs.DesignBlocks.{length_whole, blocks_long, side_is, formulas_is, rules_is}
use Rattle.layout.proofs.Tables.{true_T}
use Rattle.layout.proofs.DesignBytes.{resting_side, side_length, forms_length, rules_length}

-- the limits of a side
pub side_limits : (i : ℕ) → i < side_count → ((side_block i).least ≡ 1) × ((side_block i).most ≡ most_states)
side_limits zero h = (refl, refl)
side_limits (suc zero) h = (refl, refl)
side_limits (suc (suc zero)) h = (refl, refl)
side_limits (suc (suc (suc i))) h = absurd (omega arith)

module _ (bs : List ℕ) (counts : T (all (count_right bs) (design_blocks (held bs)))) (whole : Whole bs) where
  -- the count of a block is within its limits
  abbrev Within : Block → Type 0
  Within b = (b.least ≤ record_count bs b) × (record_count bs b ≤ b.most)

  within : (i : ℕ) → i < held bs + other_blocks → Within (block (held bs) i)
  unfolding count_right
  within i h =
      let b = block (held bs) i in
      let n = record_count bs b in
      let there : i < length (design_blocks (held bs)) = omega (arith, blocks_long (held bs) whole.at_most) in
      let w = and_both (leb b.least n) (leb n b.most) (all_in (count_right bs) (get_or_in (design_blocks (held bs)) i kernel there) counts) in
      (leb→le b.least n w.0, leb→le n b.most w.1)

  formulas_within : Within (formulas (held bs))
  formulas_within = subst Within (formulas_is (held bs) whole.at_most (held bs) refl) (within (held bs) (omega arith))

  rules_within : Within (rules (held bs))
  rules_within = subst Within (rules_is (held bs) whole.at_most (held bs + 1) refl) (within (held bs + 1) (omega arith))

  states_within : (i : ℕ) → i < side_count → (1 ≤ length (side (design bs) i)) × (length (side (design bs) i) ≤ most_states)
  states_within i h =
      elim (dec_lt i (held bs)) [
        | yes l ↦
            let w = subst Within (side_is (held bs) whole.at_most i l) (within i (omega arith)) in
            let m = side_limits i h in
            let e = side_length bs i h l in
            (omega (arith, w.0, m.0), omega (arith, w.1, m.1))
        | no l ↦ let e = ap length (resting_side bs i h (omega arith)) in (omega arith, omega arith)
      ]

  pub counted : Counted bs
  counted =
      record {
        whole = whole;
        some_state = λ i h. (states_within i h).0;
        few_states = λ i h. (states_within i h).1;
        few_formulas = omega (arith, forms_length bs, formulas_within.1);
        few_rules = omega (arith, rules_length bs, rules_within.1);
      }

-- the tests of the code, 1 and 4
pub long : (bs : List ℕ) → length_right bs ≡ true → Whole bs
long bs e = (length_whole bs).0 (true_T (length_right bs) e)

pub limits : (bs : List ℕ) → length_right bs ≡ true → all (count_right bs) (design_blocks (held bs)) ≡ true → Counted bs
limits bs e f = counted bs (true_T (all (count_right bs) (design_blocks (held bs))) f) (long bs e)
