-- The blocks of a design by number, where n sides have one: those of the sides first, then the formulas and the rules. Test 1 says that n is two or three.
use mathlib.Core.Path.{◌≡◌, refl, sym, ap, ◌∙◌}
use mathlib.Core.Bool.{Bool, true, ◌&&◌}
use mathlib.Core.Logic.{◌↔◌, ⊎_elim}
use mathlib.Core.List.{List, [], ◌∷◌}
use Prim.Native.Nat.{ℕ, zero, suc, ◌+◌, ◌*◌, ◌≤◌, ◌<◌}
use native.Mathlib.Decide.{dec_lt, ℕ_discrete}
use native.Mathlib.Omega.{arith}
use lib.Dec.{T, eqb, eqb→eq, eqb_refl}
use lib.ListN.{length, get_or, take, length-append, get_or-append}
use lib.Seq.{length-take-le, get_or-take, get_or-append-add}
use Rattle.model.specs.Judged.{all}
use Rattle.model.proofs.Bools.{or_either, or_left, or_right}
use Rattle.layout.specs.Sizes.{side_count, least_sides, other_blocks, block_bytes}
use Rattle.layout.specs.Blocks.{Block, kernel, formulas, rules, side_blocks, design_blocks}
use Rattle.layout.specs.Designs.{held, Whole, side_block}
use Rattle.refusals.specs.Counted.{block}
use Rattle.refusals.specs.Refusals.{design_bytes, length_right}
use Rattle.layout.proofs.Tables.{and_unit, all_true, all_at}
use Rattle.layout.proofs.DesignBytes.{side_at}
use Rattle.refusals.proofs.AllTests.{all_append}

-- ---- test 1
same_number : (m n : ℕ) → m ≡ n → T (eqb m n)
same_number m n e = rw e (eqb_refl n)

pub length_whole : (bs : List ℕ) → T (length_right bs) ↔ Whole bs
unfolding length_right
length_whole bs = (
  λ t. ⊎_elim
      (λ (x : T (eqb (length bs) (design_bytes least_sides))).
      let e = eqb→eq (length bs) (design_bytes least_sides) x in record { enough = omega arith; at_most = omega arith; long = omega arith })
      (λ (x : T (eqb (length bs) (design_bytes side_count))).
      let e = eqb→eq (length bs) (design_bytes side_count) x in record { enough = omega arith; at_most = omega arith; long = omega arith })
      (or_either (eqb (length bs) (design_bytes least_sides)) (eqb (length bs) (design_bytes side_count)) t),
  λ w. elim (ℕ_discrete (held bs) least_sides) [
    | yes e ↦ or_left (eqb (length bs) (design_bytes least_sides)) (eqb (length bs) (design_bytes side_count)) (same_number (length bs) (design_bytes least_sides) (omega (arith, w.long)))
    | no n ↦ or_right (eqb (length bs) (design_bytes least_sides)) (eqb (length bs) (design_bytes side_count)) (same_number (length bs) (design_bytes side_count) (omega (arith, w.enough, w.at_most, w.long)))
  ],
)

-- ---- the blocks
pub side_first : (i : ℕ) → i < side_count → (side_block i).first ≡ 0
side_first zero h = refl
side_first (suc zero) h = refl
side_first (suc (suc zero)) h = refl
side_first (suc (suc (suc i))) h = absurd (omega arith)

module _ (n : ℕ) (few : n ≤ side_count) where
  sides_long : length (take n side_blocks) ≡ n
  sides_long = length-take-le n side_blocks few

  pub blocks_long : length (design_blocks n) ≡ n + other_blocks
  blocks_long = length-append (take n side_blocks) (formulas n ∷ rules n ∷ []) ∙ ap (λ m. m + other_blocks) sides_long

  -- the block of a side, and those behind
  pub side_is : (i : ℕ) → i < n → block n i ≡ side_block i
  side_is i h = get_or-append (take n side_blocks) (formulas n ∷ rules n ∷ []) kernel i (omega (arith, sides_long)) ∙ get_or-take n side_blocks i kernel h

  other_is : (k : ℕ) → block n (n + k) ≡ get_or (formulas n ∷ rules n ∷ []) k kernel
  other_is k = ap (λ m. get_or (design_blocks n) (m + k) kernel) (sym sides_long) ∙ get_or-append-add (take n side_blocks) (formulas n ∷ rules n ∷ []) k kernel

  pub formulas_is : (i : ℕ) → i ≡ n → block n i ≡ formulas n
  formulas_is i e = let f : i ≡ n + 0 = omega arith in ap (block n) f ∙ other_is 0

  pub rules_is : (i : ℕ) → i ≡ n + 1 → block n i ≡ rules n
  rules_is i e = ap (block n) e ∙ other_is 1

  -- what holds of each of these holds of block i
  pub each_block : (P : ℕ → Block → Type 0) → ((i : ℕ) → i < n → P i (side_block i)) → P n (formulas n) → P (n + 1) (rules n) → (i : ℕ) → i < n + other_blocks → P i (block n i)
  each_block P s f r i h =
      elim (dec_lt i n) [
        | yes l ↦ rw (side_is i l) (s i l)
        | no l ↦ elim (ℕ_discrete i n) [
          | yes e ↦ rw (formulas_is i e, e) f
          | no k ↦ let e : i ≡ n + 1 = omega arith in rw (rules_is i e, e) r
        ]
      ]

  pub block_at : (i : ℕ) → i < n + other_blocks → (block n i).at ≡ block_bytes * i
  block_at = each_block (λ i b. b.at ≡ block_bytes * i) (λ i h. side_at i (omega arith)) refl refl

  pub block_first : (i : ℕ) → i < n + other_blocks → (block n i).first ≡ 0
  block_first = each_block (λ i b. b.first ≡ 0) (λ i h. side_first i (omega arith)) refl refl

  -- ---- a test of every block: it is one of each side's, of the formulas' and of the rules'
  module _ (p : Block → Bool) where
    pub blocks_pass : ((i : ℕ) → i < n → p (side_block i) ≡ true) → p (formulas n) ≡ true → p (rules n) ≡ true → all p (design_blocks n) ≡ true
    blocks_pass s f r = all_true p kernel (design_blocks n) (λ i h. each_block (λ i b. p b ≡ true) s f r i (omega (arith, blocks_long)))

    module _ (e : all p (design_blocks n) ≡ true) where
      block_passes : (i : ℕ) → i < n + other_blocks → p (block n i) ≡ true
      block_passes i h = all_at p kernel (design_blocks n) e i (omega (arith, blocks_long))

      pub side_passes : (i : ℕ) → i < n → p (side_block i) ≡ true
      side_passes i h = ap p (sym (side_is i h)) ∙ block_passes i (omega arith)

      pub formulas_pass : p (formulas n) ≡ true
      formulas_pass = ap p (sym (formulas_is n refl)) ∙ block_passes n (omega arith)

      pub rules_pass : p (rules n) ≡ true
      rules_pass = ap p (sym (rules_is (n + 1) refl)) ∙ block_passes (n + 1) (omega arith)

-- a test of the blocks: of those of the sides first
pub sides_first : (n : ℕ) (p : Block → Bool) → all p (design_blocks n) ≡ (all p (take n side_blocks) && (p (formulas n) && p (rules n)))
unfolding all
sides_first n p =
    all_append p (take n side_blocks) (formulas n ∷ rules n ∷ [])
    ∙ ap (λ b. all p (take n side_blocks) && (p (formulas n) && b)) (and_unit (p (rules n)))
