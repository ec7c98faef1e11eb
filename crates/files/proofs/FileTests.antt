-- Refusals 2, 3, 4 and 8 of a file: found block by block, and what it says of the file that none holds.
use mathlib.Core.Path.{◌≡◌, refl, sym, ap, ◌∙◌}
use mathlib.Core.Bool.{Bool, true, ◌&&◌, cond, and_comm, and_assoc}
use mathlib.Core.List.{List, [], ◌∷◌}
use Prim.Native.Nat.{ℕ, suc, ◌+◌, ◌-◌, ◌*◌, ◌≤◌, ◌<◌}
use native.Mathlib.Numerals.{add-one}
use native.Mathlib.Omega.{arith}
use borrow.Author.Tests.{leb-true, le-leb}
use lib.Dec.{lit<, leb}
use Rattle.model.specs.Judged.{all}
use Rattle.model.proofs.Bools.{T_true, bool_iff}
use Rattle.layout.specs.Sizes.{block_records, most_records}
use Rattle.layout.specs.Tables.{table, every}
use Rattle.layout.specs.Blocks.{Block}
use Rattle.files.specs.Files.{blocks, file_block, file_blocks, file_count}
use Rattle.refusals.specs.Refusals.{Test, first_failing, check_right, header_right, count_right, unused_right, block_tests}
use Rattle.files.specs.FileRefusals.{earlier}
use Rattle.layout.proofs.Tables.{true_T, and_left, and_right, every_true, every_at, all_true, and_unit, length_table, entry}
use Rattle.layout.proofs.Tables.{all_at}
use Rattle.refusals.proofs.Passing.{passed}
use Rattle.files.proofs.FileSizes.{Sized}
use Rattle.files.proofs.BlockTests.{counted}
use Rattle.files.proofs.Earlier.{row, both_first}

-- a test of each entry of a table
pub all_table : {A : Type 0} (p : A → Bool) (f : ℕ → A) (n : ℕ) → all p (table n f) ≡ every n (λ k. p (f k))
all_table p f n =
    bool_iff (all p (table n f)) (every n (λ k. p (f k)))
    (λ t. true_T (every n (λ k. p (f k))) (every_true (λ k. p (f k)) n (λ k h.
    sym (ap p (entry f (f 0) n k h)) ∙ all_at p (f 0) (table n f) (T_true (all p (table n f)) t) k (omega (arith, length_table f n)))))
    (λ t. true_T (all p (table n f)) (all_true p (f 0) (table n f) (λ k h.
    let l : k < n = omega (arith, length_table f n) in
    ap p (entry f (f 0) n k l) ∙ every_at (λ j. p (f j)) n (T_true (every n (λ j. p (f j))) t) k l)))

abbrev pub four : Bool → Bool → Bool → Bool → List Test
four a b c d =
    record { number = 2; passes = a } ∷ record { number = 3; passes = b } ∷ record { number = 4; passes = c } ∷ record { number = 8; passes = d } ∷ []

module _ (bs : List ℕ) where
  abbrev block : ℕ → Block
  block k = file_block (blocks bs) k

  abbrev few : Bool
  few = leb (file_count bs) most_records

  -- the record count and the first k blocks
  abbrev pub so_far : ℕ → List Test
  so_far k =
      four (every k (λ j. check_right bs (block j))) (every k (λ j. header_right bs (block j))) (few && every k (λ j. count_right bs (block j)))
      (every k (λ j. unused_right bs (block j)))

  pub start : cond few 0 4 ≡ first_failing (so_far 0)
  unfolding first_failing every
  start = ap (λ b. cond b 0 4) (sym (and_unit few))

  -- one block more
  pub next : (k : ℕ) → earlier (first_failing (so_far k)) (first_failing (block_tests bs (block k))) ≡ first_failing (so_far (k + 1))
  unfolding every
  next k =
      both_first 1
      (row 2 (every k (λ j. check_right bs (block j))) (check_right bs (block k))
      ∷ row 3 (every k (λ j. header_right bs (block j))) (header_right bs (block k))
      ∷ row 4 (few && every k (λ j. count_right bs (block j))) (count_right bs (block k))
      ∷ row 8 (every k (λ j. unused_right bs (block j))) (unused_right bs (block k))
      ∷ [])
      refl
      ∙ ap (λ b. first_failing (four (every (suc k) (λ j. check_right bs (block j))) (every (suc k) (λ j. header_right bs (block j))) b (every (suc k) (λ j. unused_right bs (block j)))))
      (and_assoc few (every k (λ j. count_right bs (block j))) (count_right bs (block k)))
      ∙ ap (λ m. first_failing (so_far m)) (sym (add-one k))

  -- all blocks
  abbrev pub whole : List Test
  whole =
      four (all (check_right bs) (file_blocks bs)) (all (header_right bs) (file_blocks bs)) (all (count_right bs) (file_blocks bs) && leb (file_count bs) most_records)
      (all (unused_right bs) (file_blocks bs))

  pub end : so_far (blocks bs) ≡ whole
  unfolding file_blocks
  end =
      rw (
        all_table (check_right bs) block (blocks bs),
        all_table (header_right bs) block (blocks bs),
        all_table (count_right bs) block (blocks bs),
        all_table (unused_right bs) block (blocks bs),
        and_comm few (every (blocks bs) (λ j. count_right bs (block j))),
      )

-- ---- where none of them holds
pub record BlocksPass (bs : List ℕ) : Type 0 where
  pub checks : (k : ℕ) → k < blocks bs → check_right bs (file_block (blocks bs) k) ≡ true
  pub headers : (k : ℕ) → k < blocks bs → header_right bs (file_block (blocks bs) k) ≡ true
  pub counts : (k : ℕ) → k < blocks bs → count_right bs (file_block (blocks bs) k) ≡ true
  pub few_records : file_count bs ≤ most_records
  pub unused_bytes : (k : ℕ) → k < blocks bs → unused_right bs (file_block (blocks bs) k) ≡ true

module _ (bs : List ℕ) where
  -- a test of every block
  each : (p : Block → Bool) → all p (file_blocks bs) ≡ true → (k : ℕ) → k < blocks bs → p (file_block (blocks bs) k) ≡ true
  unfolding file_blocks
  each p e = every_at (λ k. p (file_block (blocks bs) k)) (blocks bs) (sym (all_table p (file_block (blocks bs)) (blocks bs)) ∙ e)

  of_each : (p : Block → Bool) → ((k : ℕ) → k < blocks bs → p (file_block (blocks bs) k) ≡ true) → all p (file_blocks bs) ≡ true
  unfolding file_blocks
  of_each p f = all_table p (file_block (blocks bs)) (blocks bs) ∙ every_true (λ k. p (file_block (blocks bs) k)) (blocks bs) f

  pub blocks_pass : first_failing (whole bs) ≡ 0 → BlocksPass bs
  blocks_pass e =
      let p2 = passed record { number = 2; passes = all (check_right bs) (file_blocks bs) } _ (lit< tt) e in
      let p3 = passed record { number = 3; passes = all (header_right bs) (file_blocks bs) } _ (lit< tt) p2.1 in
      let p4 = passed record { number = 4; passes = all (count_right bs) (file_blocks bs) && leb (file_count bs) most_records } _ (lit< tt) p3.1 in
      let p8 = passed record { number = 8; passes = all (unused_right bs) (file_blocks bs) } [] (lit< tt) p4.1 in
      record {
        checks = each (check_right bs) p2.0;
        headers = each (header_right bs) p3.0;
        counts = each (count_right bs) (and_left (all (count_right bs) (file_blocks bs)) (leb (file_count bs) most_records) p4.0);
        few_records = leb-true (file_count bs) most_records (and_right (all (count_right bs) (file_blocks bs)) (leb (file_count bs) most_records) p4.0);
        unused_bytes = each (unused_right bs) p8.0;
      }

  pub passes_blocks : BlocksPass bs → first_failing (whole bs) ≡ 0
  unfolding first_failing
  passes_blocks b =
      rw (
        of_each (check_right bs) b.checks,
        of_each (header_right bs) b.headers,
        of_each (count_right bs) b.counts,
        le-leb (file_count bs) most_records b.few_records,
        of_each (unused_right bs) b.unused_bytes,
      )

  -- the last block holds at most nine records, so that all are in blocks that are there
  pub count_fits : Sized bs → BlocksPass bs → file_count bs ≤ block_records * blocks bs
  unfolding file_count
  count_fits s b =
      let l = s.some_block in
      omega (arith, (counted bs (blocks bs) (blocks bs - 1) (b.counts (blocks bs - 1) (omega arith))).at_most)
