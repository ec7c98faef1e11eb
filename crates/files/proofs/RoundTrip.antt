-- The round trip. A converter that the writer takes is read back the same; and what the reader takes is what the writer writes for the converter that
-- it reads, so that no other file is read. First of the definitions, then of what the two calls promise.
use mathlib.Core.Path.{◌≡◌, ap, subst, ◌∙◌}
use mathlib.Core.List.{List}
use Prim.Native.Nat.{ℕ, ◌+◌, ◌*◌, ◌≤◌, ◌<◌}
use native.Mathlib.Omega.{arith}
use lib.ListN.{length, take}
use Rattle.std.specs.Prelude.{Result, Ok}
use Rattle.refusals.specs.declared.refusal.Refusal.{Refusal}
use Rattle.layout.specs.Sizes.{record_bytes, block_bytes}
use Rattle.layout.specs.Bytes.{byte, put}
use Rattle.layout.specs.Converters.{records}
use Rattle.files.specs.Files.{blocks, file_count, file_records, blocks_for, written}
use Rattle.refusals.specs.Refusals.{first_failing, converter_refusal}
use Rattle.files.specs.FileRefusals.{file_tests, write_refusal, read_refusal}
use Rattle.files.specs.Answers.{Writes, Reads}
use Rattle.layout.proofs.Put.{take_put}
use Rattle.refusals.proofs.Accepted.{Accepted, accepted, accepts}
use Rattle.files.proofs.AcceptedWrites.{write_accepted, write_accepts}
use Rattle.files.proofs.Outcomes.{write_does, write_passed, read_does, read_passed}
use Rattle.files.proofs.FileRecords.{length_file_records}
use Rattle.files.proofs.AcceptedFiles.{AcceptedFile, file_accepted, file_accepts, read_accepted, read_accepts}
use Rattle.files.proofs.WrittenRead.{length_written, count_written, read_back, accepted_back}
use Rattle.files.proofs.ReadWritten.{blocks_read, converter_read, written_back}

-- ---- from a converter
module _ (cs : List ℕ) (taken : converter_refusal cs ≡ 0) where
  a : Accepted cs
  a = accepted cs taken

  -- its file passes 1 to 4, 8 and 11
  pub written_passes : first_failing (file_tests (written cs)) ≡ 0
  written_passes = file_accepts (written cs) (accepted_back cs a)

  -- and has its records
  pub written_records : file_records (written cs) ≡ cs
  written_records = read_back cs a

  pub written_count : file_count (written cs) ≡ records cs
  written_count = count_written cs a

-- ---- from a file of bytes
module _ (bs : List ℕ) (bytes : (i : ℕ) → byte bs i < 256) (taken : first_failing (file_tests bs) ≡ 0) where
  f : AcceptedFile bs
  f = file_accepted bs taken

  -- its records pass 10 and 11
  pub records_pass : converter_refusal (file_records bs) ≡ 0
  records_pass = accepts (file_records bs) (converter_read bs f bytes)

  -- and fill just this file
  pub records_written : written (file_records bs) ≡ bs
  records_written = written_back bs f bytes

  pub records_blocks : blocks_for (records (file_records bs)) ≡ blocks bs
  records_blocks = blocks_read bs f bytes

-- ---- of the two calls
-- the bytes that were put are taken again
taken_again : (bs vs : List ℕ) (n : ℕ) → length vs ≡ n → n ≤ length bs → take n (put bs 0 vs) ≡ vs
taken_again bs vs n e h =
    let z : n ≡ 0 + length vs = omega arith in
    ap (λ i. take i (put bs 0 vs)) z ∙ take_put vs bs 0 (omega arith)

-- The writer answered n blocks: the reader, lent these and room for the converter, answers its record count and leaves the converter at the front.
module _ (cs bs after : List ℕ) (n : ℕ) (wrote : Writes cs bs after (Ok n)) where
  passed : write_refusal cs (length bs) ≡ 0
  passed = write_passed cs bs after n wrote

  known : converter_refusal cs ≡ 0
  known = (write_accepted cs (length bs) passed).0

  -- the blocks are the converter's file
  file : take (block_bytes * n) after ≡ written cs
  file =
      let d = write_does cs bs after (Ok n) wrote passed in
      let e : n ≡ blocks_for (records cs) = cc d.0 in
      let l = length_written cs (accepted cs known) in
      ap (take (block_bytes * n)) d.1 ∙ taken_again bs (written cs) (block_bytes * n) (omega arith) (omega (arith, (write_accepted cs (length bs) passed).1))

  pub read_of_write : (table left : List ℕ) (x : Result ℕ Refusal) → length cs ≤ length table → Reads (take (block_bytes * n) after) table left x
      → (x ≡ Ok (records cs)) × (left ≡ put table 0 cs)
  read_of_write table left x room reads =
      let d : Reads (written cs) table left x = subst (λ b. Reads b table left x) file reads in
      let z = read_accepts (written cs) (length table) (accepted_back cs (accepted cs known)) (omega (arith, written_count cs known, (accepted cs known).whole)) in
      let r = read_does (written cs) table left x d z in
      (r.0 ∙ ap Ok (written_count cs known), r.1 ∙ ap (put table 0) (written_records cs known))

-- The reader answered n records: the writer, lent these and room for the file, answers its block count and leaves the file at the front.
module _ (bs cs after : List ℕ) (n : ℕ) (bytes : (i : ℕ) → byte bs i < 256) (read_it : Reads bs cs after (Ok n)) where
  none : read_refusal bs (length cs) ≡ 0
  none = read_passed bs cs after n read_it

  here : AcceptedFile bs
  here = (read_accepted bs (length cs) none).0

  -- the records are the file's
  converter : take (record_bytes * n) after ≡ file_records bs
  converter =
      let d = read_does bs cs after (Ok n) read_it none in
      let e : n ≡ file_count bs = cc d.0 in
      let l = length_file_records bs in
      ap (take (record_bytes * n)) d.1 ∙ taken_again cs (file_records bs) (record_bytes * n) (omega arith) (omega (arith, (read_accepted bs (length cs) none).1))

  pub write_of_read : (table left : List ℕ) (x : Result ℕ Refusal) → length bs ≤ length table → Writes (take (record_bytes * n) after) table left x
      → (x ≡ Ok (blocks bs)) × (left ≡ put table 0 bs)
  write_of_read table left x room writes =
      let d : Writes (file_records bs) table left x = subst (λ c. Writes c table left x) converter writes in
      let z =
      write_accepts (file_records bs) (length table) (accepts (file_records bs) (converter_read bs here bytes))
      (omega (arith, blocks_read bs here bytes, here.size.whole)) in
      let r = write_does (file_records bs) table left x d z in
      (r.0 ∙ ap Ok (blocks_read bs here bytes), r.1 ∙ ap (put table 0) (written_back bs here bytes))
