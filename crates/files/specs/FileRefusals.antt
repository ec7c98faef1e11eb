-- Specification, "When a call declines": the refusals of the writer and of the block reader, each in the specification's order.
use Rattle.std.specs.Prelude.{Bool, ◌&&◌, cond, List, [], ◌∷◌, ◌++◌, ℕ, ◌*◌, ◌%◌, min, eqb, leb, length}
use Rattle.model.specs.Judged.{all}
use Rattle.layout.specs.Sizes.{record_bytes, block_bytes, most_records, most_blocks}
use Rattle.layout.specs.Converters.{records}
use Rattle.refusals.specs.Refusals.{Test, first_failing, check_right, header_right, count_right, unused_right, records_right, converter_tests}
use Rattle.files.specs.Files.{blocks, file_blocks, file_count, file_records, blocks_for}

-- ---- the writer: 10 to 12, with this much room lent
abbrev pub room_for_blocks : List ℕ → ℕ → Test
room_for_blocks cs room = record { number = 12; passes = leb (block_bytes * blocks_for (records cs)) room }

unfoldable pub write_refusal : List ℕ → ℕ → ℕ
write_refusal cs room = first_failing (converter_tests cs ++ (room_for_blocks cs room ∷ []))

-- ---- the block reader: 1 to 4, 8, 11, 12
unfoldable pub file_size_right : List ℕ → Bool
file_size_right bs = leb 1 (length bs) && eqb (length bs % block_bytes) 0 && leb (blocks bs) most_blocks

abbrev pub file_tests : List ℕ → List Test
file_tests bs =
    record { number = 1; passes = file_size_right bs }
    ∷ record { number = 2; passes = all (check_right bs) (file_blocks bs) }
    ∷ record { number = 3; passes = all (header_right bs) (file_blocks bs) }
    ∷ record { number = 4; passes = all (count_right bs) (file_blocks bs) && leb (file_count bs) most_records }
    ∷ record { number = 8; passes = all (unused_right bs) (file_blocks bs) }
    ∷ record { number = 11; passes = records_right (file_records bs) }
    ∷ []

abbrev pub room_for_records : List ℕ → ℕ → Test
room_for_records bs room = record { number = 12; passes = leb (record_bytes * file_count bs) room }

unfoldable pub read_refusal : List ℕ → ℕ → ℕ
read_refusal bs room = first_failing (file_tests bs ++ (room_for_records bs room ∷ []))

-- ---- where each block is tested by itself
-- of two refusals the one that comes first, where 0 is none
unfoldable pub earlier : ℕ → ℕ → ℕ
earlier a b = cond (eqb a 0) b (cond (eqb b 0) a (min a b))
