-- What is asked of each block of a design. A block that was made passes 2, 3 and 4 where it stands, and what stands behind its records is zero; so it passes 8 where its records do.
use mathlib.Core.Path.{◌≡◌, subst, subst⁻¹}
use mathlib.Core.Bool.{Bool, true, ◌&&◌}
use mathlib.Core.List.{List}
use Prim.Native.Nat.{ℕ, ◌+◌, ◌-◌, ◌*◌, ◌≤◌, ◌<◌}
use borrow.Author.Tests.{le-leb, eq-eqb}
use lib.Dec.{eqb, leb}
use lib.ListN.{length}
use Rattle.layout.specs.Sizes.{check_in_block, records_in_block, first_in_block}
use Rattle.layout.specs.Tables.{every}
use Rattle.layout.specs.Bytes.{byte, word, part, check, all_zero}
use Rattle.layout.specs.Unused.{size}
use Rattle.layout.specs.Blocks.{Block, record_count, record_place, behind}
use Rattle.layout.proofs.Tables.{and_true, every_true}
use Rattle.layout.proofs.SealedBlocks.{Stands}
use Rattle.refusals.specs.Refusals.{check_right, header_right, count_right, unused_eight, unused_right}

-- 2, 3, 4 and 8 of one block
pub record Passes (bs : List ℕ) (b : Block) : Type 0 where
  pub checked : check_right bs b ≡ true
  pub headed : header_right bs b ≡ true
  pub counted : count_right bs b ≡ true
  pub clean : unused_right bs b ≡ true

module _ (bs : List ℕ) (b : Block) (count : ℕ) (rs : List ℕ) (s : Stands b.kind count b.first rs bs b.at) where
  -- 2
  standing_check : check_right bs b ≡ true
  unfolding check_right
  standing_check = eq-eqb (word bs (b.at + check_in_block)) (check (part bs b.at check_in_block)) s.check_right

  -- 3
  standing_header : header_right bs b ≡ true
  unfolding header_right
  standing_header =
      and_true (eqb (byte bs b.at) b.kind) (eqb (word bs (b.at + first_in_block)) b.first) (eq-eqb (byte bs b.at) b.kind s.kind_right)
      (eq-eqb (word bs (b.at + first_in_block)) b.first s.first_right)

  -- 4
  standing_count : b.least ≤ count → count ≤ b.most → count_right bs b ≡ true
  unfolding count_right
  standing_count l m =
      subst⁻¹ (λ c. (leb b.least c && leb c b.most) ≡ true) s.count_right
      (and_true (leb b.least count) (leb count b.most) (le-leb b.least count l) (le-leb count b.most m))

  -- the bytes behind its records
  standing_behind : length rs ≡ size b.holds * count → all_zero (behind bs b) ≡ true
  standing_behind e =
      subst⁻¹ (λ c. all_zero (part bs (record_place b c) (check_in_block - records_in_block - size b.holds * c)) ≡ true) s.count_right
      (subst (λ n. all_zero (part bs (b.at + records_in_block + n) (check_in_block - records_in_block - n)) ≡ true) e s.zeros_behind)

  -- 8
  standing_unused : length rs ≡ size b.holds * count → ((k : ℕ) → k < count → all_zero (unused_eight b.holds bs (record_place b k)) ≡ true) → unused_right bs b ≡ true
  unfolding unused_right
  standing_unused e z =
      let p : ℕ → Bool = λ k. all_zero (unused_eight b.holds bs (record_place b k)) in
      and_true (every (record_count bs b) p) (all_zero (behind bs b)) (subst⁻¹ (λ c. every c p ≡ true) s.count_right (every_true p count z)) (standing_behind e)

  -- so where its records are as many as its limits allow, and their unused bytes are zero, it passes all four
  pub standing : b.least ≤ count → count ≤ b.most → length rs ≡ size b.holds * count
      → ((k : ℕ) → k < count → all_zero (unused_eight b.holds bs (record_place b k)) ≡ true)
      → Passes bs b
  standing l m e z = record { checked = standing_check; headed = standing_header; counted = standing_count l m; clean = standing_unused e z }
