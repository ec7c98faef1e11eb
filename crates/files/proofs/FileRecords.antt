-- The records of a file, one after the other as in memory: how many they are, and that each stands in the file as it is.
use mathlib.Core.Path.{◌≡◌, sym, ap, ◌∙◌}
use mathlib.Core.List.{List}
use Prim.Native.Nat.{ℕ, ◌+◌, ◌*◌, ◌/◌, ◌%◌, ◌≤◌, ◌<◌}
use native.Mathlib.Omega.{arith}
use lib.ListN.{length, take}
use lib.Seq.{take-add, length-take-le}
use Rattle.layout.specs.Sizes.{record_bytes, block_bytes, records_in_block, block_records}
use Rattle.layout.specs.Bytes.{byte, part, put}
use Rattle.layout.specs.Converters.{records}
use Rattle.files.specs.Files.{blocks, file_count, file_place, file_records}
use Rattle.refusals.specs.Refusals.{record_right}
use Rattle.layout.proofs.Tables.{length_table, entry}
use Rattle.layout.proofs.Parts.{length_part}
use Rattle.layout.proofs.Put.{put_behind}
use Rattle.files.proofs.Agree.{part_same, right_agrees}

-- where record j stands
abbrev pub place : ℕ → ℕ
place j = block_bytes * (j / block_records) + records_in_block + record_bytes * (j % block_records)

module _ (bs : List ℕ) where
  pub length_file_records : length (file_records bs) ≡ record_bytes * file_count bs
  unfolding file_records
  length_file_records = length_table _ _

  pub records_file : records (file_records bs) ≡ file_count bs
  records_file = omega (arith, length_file_records)

  -- byte i of record j
  record_byte : (j i : ℕ) → j < file_count bs → i < record_bytes → byte (file_records bs) (record_bytes * j + i) ≡ byte bs (place j + i)
  unfolding file_records
  record_byte j i h l =
      let e : file_place (record_bytes * j + i) ≡ place j + i = omega arith in
      entry (λ m. byte bs (file_place m)) 0 (record_bytes * file_count bs) (record_bytes * j + i) (omega arith) ∙ ap (byte bs) e

  -- its blocks are there
  module _ (fits : file_count bs ≤ block_records * blocks bs) (j : ℕ) (h : j < file_count bs) where
    pub place_fits : place j + record_bytes ≤ length bs
    place_fits = omega arith

    pub record_part : part bs (place j) record_bytes ≡ part (file_records bs) (record_bytes * j) record_bytes
    record_part = part_same bs (file_records bs) (place j) (record_bytes * j) record_bytes place_fits (omega (arith, length_file_records)) (λ i l. sym (record_byte j i h l))

    pub record_right_at : (n : ℕ) → record_right bs n (place j) ≡ record_right (file_records bs) n (record_bytes * j)
    record_right_at n = right_agrees bs (file_records bs) (place j) (record_bytes * j) (λ i l. sym (record_byte j i h l)) n place_fits (omega (arith, length_file_records))

    -- one record more, put behind the first j
    pub put_next_record : (cs : List ℕ) → record_bytes * j + record_bytes ≤ length cs
        → put (put cs 0 (take (record_bytes * j) (file_records bs))) (record_bytes * j) (part bs (place j) record_bytes)
        ≡ put cs 0 (take (record_bytes * (j + 1)) (file_records bs))
    put_next_record cs room =
        let f = file_records bs in
        let m = record_bytes * j in
        let z : m ≡ 0 + m = omega arith in
        let s : m + record_bytes ≡ record_bytes * (j + 1) = omega arith in
        ap (put (put cs 0 (take m f)) m) record_part
        ∙ ap (λ i. put (put cs 0 (take m f)) i (part f m record_bytes)) z
        ∙ put_behind (take m f) (part f m record_bytes) cs 0 m (length-take-le m f (omega (arith, length_file_records)))
        (omega (arith, length_part f m record_bytes (omega (arith, length_file_records))))
        ∙ ap (put cs 0) (sym (take-add m record_bytes f) ∙ ap (λ n. take n f) s)
