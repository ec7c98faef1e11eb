-- Refusal 1 of a converter file: whole blocks, 1 to 7,282.
use mathlib.Core.Path.{◌≡◌}
use mathlib.Core.Bool.{true, ◌&&◌}
use mathlib.Core.List.{List}
use Prim.Native.Nat.{ℕ, ◌*◌, ◌%◌, ◌≤◌}
use native.Mathlib.Omega.{arith}
use borrow.Author.Tests.{leb-true, eqb-true, le-leb, eq-eqb}
use lib.Dec.{leb, eqb}
use lib.ListN.{length}
use Rattle.layout.specs.Sizes.{block_bytes, most_blocks}
use Rattle.files.specs.Files.{blocks}
use Rattle.files.specs.FileRefusals.{file_size_right}
use Rattle.layout.proofs.Tables.{and_true, and_left, and_right}

pub record Sized (bs : List ℕ) : Type 0 where
  pub some_block : 1 ≤ blocks bs
  pub whole : length bs ≡ block_bytes * blocks bs
  pub at_most : blocks bs ≤ most_blocks

module _ (bs : List ℕ) where
  pub sized : file_size_right bs ≡ true → Sized bs
  unfolding file_size_right
  sized e =
      let s = and_left (leb 1 (length bs) && eqb (length bs % block_bytes) 0) (leb (blocks bs) most_blocks) e in
      let some = leb-true 1 (length bs) (and_left (leb 1 (length bs)) (eqb (length bs % block_bytes) 0) s) in
      let whole = eqb-true (length bs % block_bytes) 0 (and_right (leb 1 (length bs)) (eqb (length bs % block_bytes) 0) s) in
      record {
        some_block = omega arith;
        whole = omega arith;
        at_most = leb-true (blocks bs) most_blocks (and_right (leb 1 (length bs) && eqb (length bs % block_bytes) 0) (leb (blocks bs) most_blocks) e);
      }

  pub size_passes : Sized bs → file_size_right bs ≡ true
  unfolding file_size_right
  size_passes s =
      let w = s.whole in
      let b = s.some_block in
      and_true (leb 1 (length bs) && eqb (length bs % block_bytes) 0) (leb (blocks bs) most_blocks)
      (and_true (leb 1 (length bs)) (eqb (length bs % block_bytes) 0) (le-leb 1 (length bs) (omega arith)) (eq-eqb (length bs % block_bytes) 0 (omega arith)))
      (le-leb (blocks bs) most_blocks s.at_most)
