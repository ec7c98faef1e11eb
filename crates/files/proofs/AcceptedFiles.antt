-- What it says of a converter file that nothing is refused, and the other way round.
use mathlib.Core.Path.{◌≡◌, refl, sym, ◌∙◌}
use mathlib.Core.Bool.{true}
use mathlib.Core.List.{List, [], ◌∷◌, ◌++◌}
use Prim.Native.Nat.{ℕ, ◌*◌, ◌≤◌}
use borrow.Author.Tests.{leb-true, le-leb}
use lib.Dec.{lit<}
use Rattle.model.specs.Judged.{all}
use Rattle.layout.specs.Sizes.{record_bytes}
use Rattle.files.specs.Files.{file_count, file_records}
use Rattle.refusals.specs.Refusals.{Test, first_failing, records_right}
use Rattle.files.specs.FileRefusals.{file_size_right, file_tests, room_for_records, read_refusal}
use Rattle.refusals.proofs.Passing.{passed, passes_on, refused_first, refused_later, none_first}
use Rattle.files.proofs.FileSizes.{Sized, sized, size_passes}
use Rattle.files.proofs.FileTests.{whole, BlocksPass, blocks_pass, passes_blocks}

pub record AcceptedFile (bs : List ℕ) : Type 0 where
  pub size : Sized bs
  pub pass : BlocksPass bs
  pub right : records_right (file_records bs) ≡ true

module _ (bs : List ℕ) where
  abbrev size_test : Test
  size_test = record { number = 1; passes = file_size_right bs }

  abbrev records_test : Test
  records_test = record { number = 11; passes = records_right (file_records bs) }

  pub file_accepts : AcceptedFile bs → first_failing (file_tests bs) ≡ 0
  unfolding all first_failing
  file_accepts a =
      passes_on size_test (whole bs ++ (records_test ∷ [])) (size_passes bs a.size)
      ∙ refused_later (whole bs) (records_test ∷ []) refl (passes_blocks bs a.pass)
      ∙ passes_on records_test [] a.right

  pub file_accepted : first_failing (file_tests bs) ≡ 0 → AcceptedFile bs
  unfolding all
  file_accepted e =
      let p = passed size_test (whole bs ++ (records_test ∷ [])) (lit< tt) e in
      let b = none_first (whole bs) (records_test ∷ []) p.1 in
      record {
        size = sized bs p.0;
        pass = blocks_pass bs b;
        right = (passed records_test [] (lit< tt) (sym (refused_later (whole bs) (records_test ∷ []) refl b) ∙ p.1)).0;
      }

  -- ---- with this much room lent for the records
  module _ (room : ℕ) where
    pub read_first : (first_failing (file_tests bs) ≡ 0 → ⊥) → read_refusal bs room ≡ first_failing (file_tests bs)
    unfolding read_refusal
    read_first n = refused_first (file_tests bs) (room_for_records bs room ∷ []) n

    pub read_later : first_failing (file_tests bs) ≡ 0 → read_refusal bs room ≡ first_failing (room_for_records bs room ∷ [])
    unfolding read_refusal all
    read_later e = refused_later (file_tests bs) (room_for_records bs room ∷ []) refl e

    pub read_accepted : read_refusal bs room ≡ 0 → AcceptedFile bs × (record_bytes * file_count bs ≤ room)
    unfolding read_refusal
    read_accepted e =
        let f = none_first (file_tests bs) (room_for_records bs room ∷ []) e in
        (file_accepted f, leb-true (record_bytes * file_count bs) room (passed (room_for_records bs room) [] (lit< tt) (sym (read_later f) ∙ e)).0)

    pub read_accepts : AcceptedFile bs → record_bytes * file_count bs ≤ room → read_refusal bs room ≡ 0
    unfolding first_failing
    read_accepts a h = read_later (file_accepts a) ∙ passes_on (room_for_records bs room) [] (le-leb (record_bytes * file_count bs) room h)
