-- Specification, "When a call declines": a refusal answers its number alone; reader and writer answer the count of records or blocks, and change only those
-- bytes. What the writer and the block reader answer, and what each lent byte is after.
use Rattle.std.specs.Prelude.{◌≡◌, cond, List, ℕ, eqb, length, Result}
use Rattle.layout.specs.Converters.{records}
use Rattle.files.specs.Files.{file_count, file_records, blocks_for, written}
use Rattle.refusals.specs.declared.refusal.Refusal.{Refusal}
use Rattle.refusals.specs.Answered.{Answer, done, refused, answered}
use Rattle.refusals.specs.Refusals.{left_by}
use Rattle.files.specs.FileRefusals.{write_refusal, read_refusal}

-- ---- the writer: a converter, and the bytes lent for its blocks
abbrev pub write_answer : List ℕ → ℕ → Answer ℕ
write_answer cs room = cond (eqb (write_refusal cs room) 0) (done (blocks_for (records cs))) (refused (write_refusal cs room))

pub record Writes (cs before after : List ℕ) (r : Result ℕ Refusal) : Type 0 where
  pub answers : answered r ≡ write_answer cs (length before)
  pub leaves : after ≡ left_by (write_refusal cs (length before)) before (written cs)

-- ---- the block reader: a file, and the bytes lent for its records
abbrev pub read_answer : List ℕ → ℕ → Answer ℕ
read_answer bs room = cond (eqb (read_refusal bs room) 0) (done (file_count bs)) (refused (read_refusal bs room))

pub record Reads (bs before after : List ℕ) (r : Result ℕ Refusal) : Type 0 where
  pub answers : answered r ≡ read_answer bs (length before)
  pub leaves : after ≡ left_by (read_refusal bs (length before)) before (file_records bs)
