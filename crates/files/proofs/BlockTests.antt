-- The tests of one block of a converter file (2, 3, 4 and 8), each as the facts that it is a test of.
use mathlib.Core.Path.{◌≡◌, refl, sym, ap, ◌∙◌}
use mathlib.Core.Bool.{true, ◌&&◌, cond}
use mathlib.Core.List.{List}
use Prim.Native.Nat.{ℕ, ◌+◌, ◌-◌, ◌*◌, ◌≤◌}
use native.Mathlib.Decide.{ℕ_discrete}
use native.Mathlib.Omega.{arith}
use borrow.Author.Tests.{leb-true, eqb-true, le-leb, eq-eqb, ne_eqb}
use lib.Dec.{leb, eqb}
use Rattle.model.specs.Judged.{all}
use Rattle.layout.specs.Sizes.{record_bytes, block_records}
use Rattle.layout.specs.Bytes.{byte, word, part, check, all_zero}
use Rattle.layout.specs.Blocks.{record_count, behind}
use Rattle.files.specs.Files.{converter_kind, file_block}
use Rattle.refusals.specs.Refusals.{check_right, header_right, count_right, unused_right}
use Rattle.layout.proofs.Tables.{and_true, and_left, and_right, every_true}

module _ (bs : List ℕ) (n k : ℕ) where
  -- where it stands, and how many records it says to hold
  abbrev at : ℕ
  at = (file_block n k).at

  abbrev count : ℕ
  count = record_count bs (file_block n k)

  -- ---- 2
  pub checked : check_right bs (file_block n k) ≡ true → word bs (at + 510) ≡ check (part bs at 510)
  unfolding check_right
  checked e = eqb-true (word bs (at + 510)) (check (part bs at 510)) e

  pub check_passes : word bs (at + 510) ≡ check (part bs at 510) → check_right bs (file_block n k) ≡ true
  unfolding check_right
  check_passes e = eq-eqb (word bs (at + 510)) (check (part bs at 510)) e

  -- ---- 3
  pub headed : header_right bs (file_block n k) ≡ true → (byte bs at ≡ converter_kind) × (word bs (at + 2) ≡ block_records * k)
  unfolding header_right
  headed e = (
    eqb-true (byte bs at) converter_kind (and_left (eqb (byte bs at) converter_kind) (eqb (word bs (at + 2)) (block_records * k)) e),
    eqb-true (word bs (at + 2)) (block_records * k) (and_right (eqb (byte bs at) converter_kind) (eqb (word bs (at + 2)) (block_records * k)) e),
  )

  pub header_passes : byte bs at ≡ converter_kind → word bs (at + 2) ≡ block_records * k → header_right bs (file_block n k) ≡ true
  unfolding header_right
  header_passes p q =
      and_true (eqb (byte bs at) converter_kind) (eqb (word bs (at + 2)) (block_records * k)) (eq-eqb (byte bs at) converter_kind p) (eq-eqb (word bs (at + 2)) (block_records * k) q)

  -- ---- 4
  pub record Counted : Type 0 where
    pub some_record : 1 ≤ count
    pub at_most : count ≤ block_records
    -- every block but the last is full
    pub full : (k + 1 ≡ n → ⊥) → count ≡ block_records

  -- the test of the last block, and of another
  last_count : k + 1 ≡ n → count_right bs (file_block n k) ≡ (leb 1 count && leb count block_records)
  unfolding count_right
  last_count e = ap (λ b. leb (cond b 1 block_records) count && leb count block_records) (eq-eqb (k + 1) n e)

  full_count : (k + 1 ≡ n → ⊥) → count_right bs (file_block n k) ≡ (leb block_records count && leb count block_records)
  unfolding count_right
  full_count e = ap (λ b. leb (cond b 1 block_records) count && leb count block_records) (ne_eqb (k + 1) n e)

  pub counted : count_right bs (file_block n k) ≡ true → Counted
  counted e = by (ℕ_discrete (k + 1) n)
    where
      by : Dec (k + 1 ≡ n) → Counted
      by (yes p) =
          let t = sym (last_count p) ∙ e in
          record {
            some_record = leb-true 1 count (and_left (leb 1 count) (leb count block_records) t);
            at_most = leb-true count block_records (and_right (leb 1 count) (leb count block_records) t);
            full = λ q. absurd (q p);
          }
      by (no p) =
          let t = sym (full_count p) ∙ e in
          let l = leb-true block_records count (and_left (leb block_records count) (leb count block_records) t) in
          let u = leb-true count block_records (and_right (leb block_records count) (leb count block_records) t) in
          record { some_record = omega arith; at_most = u; full = λ q. omega arith }

  pub count_passes : Counted → count_right bs (file_block n k) ≡ true
  count_passes c = by (ℕ_discrete (k + 1) n)
    where
      by : Dec (k + 1 ≡ n) → count_right bs (file_block n k) ≡ true
      by (yes p) = last_count p ∙ and_true (leb 1 count) (leb count block_records) (le-leb 1 count c.some_record) (le-leb count block_records c.at_most)
      by (no p) =
          let f = c.full p in
          full_count p ∙ and_true (leb block_records count) (leb count block_records) (le-leb block_records count (omega arith)) (le-leb count block_records c.at_most)

  -- ---- 8
  pub unused_behind : unused_right bs (file_block n k) ≡ all_zero (part bs (at + 4 + record_bytes * count) (506 - record_bytes * count))
  unfolding unused_right all_zero all
  unused_behind = ap (λ b. b && all_zero (behind bs (file_block n k))) (every_true (λ j. true) count (λ j h. refl))
