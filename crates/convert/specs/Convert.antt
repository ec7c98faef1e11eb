-- Specification, "The program": from the bytes of a design to the blocks of the converter that a search finds, or to the number of a refusal.
use Rattle.std.specs.Prelude.{◌≡◌, List, ℕ, ◌*◌, take, Result, Ok, Err}
use Rattle.refusals.specs.declared.refusal.Refusal.{Refusal}
use Rattle.layout.specs.Sizes.{record_bytes}
use Rattle.layout.specs.Bytes.{put}
use Rattle.files.specs.Files.{blocks_for, written}
use Rattle.search.specs.Search.{Searches}

-- how many blocks the converter found fills; or the number
abbrev pub convert_answer : Result ℕ Refusal → Result ℕ Refusal
convert_answer (Ok n) = Ok (blocks_for n)
convert_answer (Err e) = Err e

-- The bytes lent for blocks, after. The converter found stands at the front of the table: its file stands at the front of the blocks, and the bytes behind it are
-- as they were. After a refusal all are.
abbrev pub convert_blocks : Result ℕ Refusal → List ℕ → List ℕ → List ℕ
convert_blocks (Ok n) table bs = put bs 0 (written (take (record_bytes * n) table))
convert_blocks (Err e) table bs = bs

-- what the conversion promises, beside what the search promises of its outcome, the table and the work
pub record Converts (ds table work bs : List ℕ) (a : Result ℕ Refusal) (table' work' bs' : List ℕ) : Type 0 where
  pub outcome : Result ℕ Refusal
  pub searched : Searches ds table work outcome table' work'
  pub answers : a ≡ convert_answer outcome
  pub leaves : bs' ≡ convert_blocks outcome table' bs
