-- What it says of a converter in memory, and of the bytes lent for its blocks, that the writer refuses nothing.
use mathlib.Core.Path.{◌≡◌, refl, ◌∙◌}
use mathlib.Core.List.{List, [], ◌∷◌}
use Prim.Native.Nat.{ℕ, ◌*◌, ◌≤◌}
use borrow.Author.Tests.{leb-true, le-leb}
use lib.Dec.{lit<}
use Rattle.model.specs.Judged.{all}
use Rattle.layout.specs.Sizes.{block_bytes}
use Rattle.layout.specs.Converters.{records}
use Rattle.refusals.specs.Refusals.{converter_tests, first_failing, size_right, records_right, converter_refusal}
use Rattle.files.specs.Files.{blocks_for}
use Rattle.files.specs.FileRefusals.{room_for_blocks, write_refusal}
use Rattle.refusals.proofs.Passing.{passed, passes_on, refused_later}

module _ (cs : List ℕ) (room : ℕ) where
  pub write_accepted : write_refusal cs room ≡ 0 → (converter_refusal cs ≡ 0) × (block_bytes * blocks_for (records cs) ≤ room)
  unfolding write_refusal converter_refusal first_failing
  write_accepted e =
      let p = passed record { number = 10; passes = size_right cs } (record { number = 11; passes = records_right cs } ∷ room_for_blocks cs room ∷ []) (lit< tt) e in
      let q = passed record { number = 11; passes = records_right cs } (room_for_blocks cs room ∷ []) (lit< tt) p.1 in
      let r = passed (room_for_blocks cs room) [] (lit< tt) q.1 in (
        passes_on record { number = 10; passes = size_right cs } (record { number = 11; passes = records_right cs } ∷ []) p.0
            ∙ passes_on record { number = 11; passes = records_right cs } [] q.0,
        leb-true (block_bytes * blocks_for (records cs)) room r.0,
      )

  pub write_accepts : converter_refusal cs ≡ 0 → block_bytes * blocks_for (records cs) ≤ room → write_refusal cs room ≡ 0
  unfolding write_refusal converter_refusal first_failing all
  write_accepts e h =
      refused_later (converter_tests cs) (room_for_blocks cs room ∷ []) refl e ∙ passes_on (room_for_blocks cs room) [] (le-leb (block_bytes * blocks_for (records cs)) room h)
