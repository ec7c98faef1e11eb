-- A converter that is written is read back the same: its file passes every test of the reader, and the file's records are the converter.
use mathlib.Core.Path.{◌≡◌, sym, ap, ◌∙◌}
use mathlib.Core.Bool.{true}
use mathlib.Core.List.{List}
use Prim.Native.Nat.{ℕ, ◌+◌, ◌-◌, ◌*◌, ◌/◌, ◌%◌, ◌≤◌, ◌<◌, min}
use native.Mathlib.Omega.{arith}
use lib.ListN.{length}
use lib.Seq.{ext_get_or}
use Rattle.layout.specs.Sizes.{record_bytes, block_bytes, block_records, block_record_bytes}
use Rattle.layout.specs.Bytes.{byte, part, all_zero}
use Rattle.layout.specs.Blocks.{sealed}
use Rattle.layout.specs.Converters.{records}
use Rattle.files.specs.Files.{converter_kind, blocks, file_count, file_place, file_records, blocks_for, written_block, written}
use Rattle.refusals.specs.Refusals.{record_right, records_right}
use Rattle.layout.proofs.Tables.{every_true, entry}
use Rattle.layout.proofs.Parts.{byte_part}
use Rattle.layout.proofs.SealedBlocks.{Stands, stands}
use Rattle.refusals.proofs.Accepted.{Accepted}
use Rattle.files.proofs.WrittenFile.{block_part, length_block_part, length_first_blocks, block_of}
use Rattle.files.proofs.FileSizes.{Sized}
use Rattle.files.proofs.BlockTests.{Counted, check_passes, header_passes, count_passes, unused_behind}
use Rattle.files.proofs.FileRecords.{length_file_records}
use Rattle.files.proofs.FileTests.{BlocksPass}
use Rattle.files.proofs.AcceptedFiles.{AcceptedFile}

module _ (cs : List ℕ) (a : Accepted cs) where
  abbrev file : List ℕ
  file = written cs

  pub length_written : length file ≡ block_bytes * blocks_for (records cs)
  unfolding written
  length_written = length_first_blocks cs a (blocks_for (records cs)) (omega arith)

  blocks_written : blocks file ≡ blocks_for (records cs)
  blocks_written = omega (arith, length_written)

  -- ---- block k
  module _ (k : ℕ) (h : k < blocks_for (records cs)) where
    abbrev m : ℕ
    m = min block_records (records cs - block_records * k)

    abbrev rs : List ℕ
    rs = part cs (block_record_bytes * k) block_record_bytes

    length_rs : length rs ≡ record_bytes * m
    length_rs = ap length (block_part cs a k h) ∙ length_block_part cs a k h

    fits : length rs ≤ 506
    fits = omega (arith, length_rs)

    here : part file (block_bytes * k) block_bytes ≡ sealed converter_kind m (block_records * k) rs
    unfolding written written_block
    here = block_of cs a (blocks_for (records cs)) k h (omega arith)

    stands_here : Stands converter_kind m (block_records * k) rs file (block_bytes * k)
    stands_here = stands converter_kind m (block_records * k) rs fits file (block_bytes * k) here

    -- byte i of its records, and zeros behind them
    record_byte : (i : ℕ) → i < record_bytes * m → byte file (block_bytes * k + (4 + i)) ≡ byte cs (block_record_bytes * k + i)
    record_byte i l =
        stands_here.records_right i (omega (arith, length_rs)) ∙ byte_part cs (block_record_bytes * k) block_record_bytes i (omega arith)

    zeros_behind : all_zero (part file (block_bytes * k + 4 + record_bytes * m) (506 - record_bytes * m)) ≡ true
    zeros_behind =
        ap (λ n. all_zero (part file (block_bytes * k + 4 + n) (506 - n))) (sym length_rs) ∙ stands_here.zeros_behind

  -- ---- the file
  size : Sized file
  size =
      let s = a.some_record in
      let l = a.at_most in
      record { some_block = omega (arith, blocks_written); whole = omega (arith, length_written); at_most = omega (arith, blocks_written) }

  pub count_written : file_count file ≡ records cs
  unfolding file_count
  count_written =
      let s = a.some_record in
      let e = blocks_written in
      let l : blocks file - 1 < blocks_for (records cs) = omega arith in
      omega (arith, (stands_here (blocks file - 1) l).count_right)

  pass : BlocksPass file
  pass =
      record {
        checks = λ k h. check_passes file (blocks file) k (stands_here k (below k h)).check_right;
        headers = λ k h. header_passes file (blocks file) k (stands_here k (below k h)).kind_right (stands_here k (below k h)).first_right;
        counts = λ k h. count_passes file (blocks file) k (counts k (below k h));
        few_records = omega (arith, count_written, a.at_most);
        unused_bytes = λ k h. unused_behind file (blocks file) k ∙ unused k (below k h);
      }
    where
      below : (k : ℕ) → k < blocks file → k < blocks_for (records cs)
      below k h = omega (arith, blocks_written)

      unused : (k : ℕ) (h : k < blocks_for (records cs))
          → all_zero (part file (block_bytes * k + 4 + record_bytes * byte file (block_bytes * k + 1)) (506 - record_bytes * byte file (block_bytes * k + 1))) ≡ true
      unused k h =
          ap (λ c. all_zero (part file (block_bytes * k + 4 + record_bytes * c) (506 - record_bytes * c))) (stands_here k h).count_right
          ∙ zeros_behind k h

      counts : (k : ℕ) → k < blocks_for (records cs) → Counted file (blocks file) k
      counts k h =
          let e = (stands_here k h).count_right in
          record { some_record = omega arith; at_most = omega arith; full = λ n. omega (arith, blocks_written) }

  pub read_back : file_records file ≡ cs
  unfolding file_records
  read_back =
      ext_get_or 0 (file_records file) cs (length_file_records file ∙ ap (λ n. record_bytes * n) count_written ∙ sym a.whole) (λ i l.
      let w = a.whole in
      let v : i < record_bytes * file_count file = omega (arith, length_file_records file) in
      let e : i < record_bytes * records cs = omega (arith, count_written) in
      let k = i / block_record_bytes in
      let p : file_place i ≡ block_bytes * k + (4 + i % block_record_bytes) = omega arith in
      let q : block_record_bytes * k + i % block_record_bytes ≡ i = omega arith in
      entry (λ j. byte file (file_place j)) 0 (record_bytes * file_count file) i v
      ∙ ap (byte file) p ∙ record_byte k (omega arith) (i % block_record_bytes) (omega arith) ∙ ap (byte cs) q)

  pub accepted_back : AcceptedFile file
  unfolding records_right
  accepted_back = record { size = size; pass = pass; right = ap records_right read_back ∙ every_true (λ k. record_right cs (records cs) (record_bytes * k)) (records cs) a.right }
