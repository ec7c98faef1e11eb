-- What the reader takes is what the writer writes for the converter that it reads: only such files are read.
use mathlib.Core.Path.{◌≡◌, refl, sym, ap, ◌∙◌}
use mathlib.Core.List.{List}
use Prim.Native.Nat.{ℕ, ◌+◌, ◌-◌, ◌*◌, ◌≤◌, ◌<◌, min}
use native.Mathlib.Decide.{ℕ_discrete}
use native.Mathlib.Omega.{arith}
use lib.ListN.{length}
use lib.Seq.{take_all}
use Rattle.layout.specs.Sizes.{record_bytes, block_bytes, block_records, block_record_bytes}
use Rattle.layout.specs.Bytes.{byte, part, all_zero}
use Rattle.layout.specs.Converters.{records}
use Rattle.files.specs.Files.{converter_kind, blocks, file_count, file_place, file_records, blocks_for, written_block, written}
use Rattle.refusals.specs.Refusals.{record_right, records_right}
use Rattle.layout.proofs.Tables.{every_at, entry}
use Rattle.layout.proofs.Parts.{byte_part}
use Rattle.layout.proofs.EqualPieces.{front_pieces}
use Rattle.layout.proofs.SealedBlocks.{Stands}
use Rattle.layout.proofs.Resealed.{resealed}
use Rattle.refusals.proofs.Accepted.{Accepted}
use Rattle.files.proofs.WrittenFile.{block_part, length_block_part, first_blocks}
use Rattle.files.proofs.BlockTests.{Counted, checked, headed, counted, unused_behind}
use Rattle.files.proofs.FileRecords.{length_file_records, records_file}
use Rattle.files.proofs.AcceptedFiles.{AcceptedFile}

module _ (bs : List ℕ) (a : AcceptedFile bs) (bytes : (i : ℕ) → byte bs i < 256) where
  abbrev n : ℕ
  n = blocks bs

  abbrev cs : List ℕ
  cs = file_records bs

  -- the last block's count
  last : file_count bs ≡ block_records * (n - 1) + byte bs (block_bytes * (n - 1) + 1)
  unfolding file_count
  last = refl

  last_counted : Counted bs n (n - 1)
  last_counted = let s = a.size.some_block in counted bs n (n - 1) (a.pass.counts (n - 1) (omega arith))

  pub blocks_read : blocks_for (records cs) ≡ n
  blocks_read = let s = a.size.some_block in omega (arith, records_file bs, last, last_counted.some_record, last_counted.at_most)

  -- the records are a converter
  pub converter_read : Accepted cs
  unfolding records_right
  converter_read =
      let s = a.size.some_block in
      record {
        some_record = omega (arith, records_file bs, last, last_counted.some_record);
        whole = omega (arith, records_file bs, length_file_records bs);
        at_most = omega (arith, records_file bs, a.pass.few_records);
        right = every_at (λ k. record_right cs (records cs) (record_bytes * k)) (records cs) a.right;
      }

  -- ---- block k
  module _ (k : ℕ) (h : k < n) where
    abbrev at : ℕ
    at = block_bytes * k

    abbrev m : ℕ
    m = min block_records (records cs - block_records * k)

    inside : k < blocks_for (records cs)
    inside = omega (arith, blocks_read)

    -- its count
    count : byte bs (at + 1) ≡ m
    count = by (ℕ_discrete (k + 1) n)
      where
        c : Counted bs n k
        c = counted bs n k (a.pass.counts k h)

        by : Dec (k + 1 ≡ n) → byte bs (at + 1) ≡ m
        by (yes e) =
            let p : k ≡ n - 1 = omega arith in
            let q = ap (λ j. byte bs (block_bytes * j + 1)) p in
            omega (arith, q, records_file bs, last, last_counted.at_most)
        by (no e) = omega (arith, c.full e, records_file bs, last, last_counted.some_record)

    abbrev rs : List ℕ
    rs = part cs (block_record_bytes * k) block_record_bytes

    length_rs : length rs ≡ record_bytes * m
    length_rs = ap length (block_part cs converter_read k inside) ∙ length_block_part cs converter_read k inside

    fits : length rs ≤ 506
    fits = omega (arith, length_rs)

    -- byte i of its records
    in_records : (i : ℕ) → i < record_bytes * m → byte rs i ≡ byte bs (at + (4 + i))
    unfolding file_records
    in_records i l =
        let e : file_place (block_record_bytes * k + i) ≡ at + (4 + i) = omega arith in
        byte_part cs (block_record_bytes * k) block_record_bytes i (omega arith)
        ∙ entry (λ j. byte bs (file_place j)) 0 (record_bytes * file_count bs) (block_record_bytes * k + i) (omega (arith, records_file bs))
        ∙ ap (byte bs) e

    stands : Stands converter_kind m (block_records * k) rs bs at
    stands =
        let head = headed bs n k (a.pass.headers k h) in
        let e : record_bytes * byte bs (at + 1) ≡ length rs = omega (arith, count, length_rs) in
        record {
          kind_right = head.0;
          count_right = count;
          first_right = head.1;
          records_right = λ i l. sym (in_records i (omega (arith, length_rs)));
          zeros_behind = ap (λ j. all_zero (part bs (at + 4 + j) (506 - j))) (sym e) ∙ sym (unused_behind bs n k) ∙ a.pass.unused_bytes k h;
          check_right = checked bs n k (a.pass.checks k h);
        }

    block_same : written_block cs k ≡ part bs at block_bytes
    unfolding written_block
    block_same = let w = a.size.whole in resealed converter_kind m (block_records * k) rs fits bs bytes at (omega arith) stands

  -- ---- all blocks
  pub written_back : written cs ≡ bs
  unfolding written
  written_back =
      let w = a.size.whole in
      ap (first_blocks cs) blocks_read ∙ front_pieces (written_block cs) block_bytes bs n block_same ∙ take_all (block_bytes * n) bs (omega arith)
