-- Specification, "Bytes": a converter file is blocks of kind 5, 9 records each, the last 1 to 9, first records 0, 9, 18 and so on. From the file to its
-- records, and from records to the file.
use Rattle.std.specs.Prelude.{cond, ℕ, ◌+◌, ◌-◌, ◌*◌, ◌/◌, ◌%◌, min, eqb, length}
use mathlib.Core.List.{List, flatten}
use Rattle.layout.specs.Sizes.{record_bytes, block_bytes, records_in_block, block_records, block_record_bytes}
use Rattle.layout.specs.Tables.{table}
use Rattle.layout.specs.Bytes.{byte, part}
use Rattle.layout.specs.Unused.{converter_record}
use Rattle.layout.specs.Blocks.{Block, record_count, sealed}
use Rattle.layout.specs.Converters.{records}

-- the kind of a block of converter records
abbrev pub converter_kind : ℕ
converter_kind = 5

-- ---- reading
-- block k of a file of n blocks
abbrev pub file_block : ℕ → ℕ → Block
file_block n k =
    record {
      at = block_bytes * k;
      kind = converter_kind;
      first = block_records * k;
      holds = converter_record;
      least = cond (eqb (k + 1) n) 1 block_records;
      most = block_records;
    }

abbrev pub blocks : List ℕ → ℕ
blocks bs = length bs / block_bytes

unfoldable pub file_blocks : List ℕ → List Block
file_blocks bs = table (blocks bs) (file_block (blocks bs))

-- how many records a file has whose earlier blocks are full
unfoldable pub file_count : List ℕ → ℕ
file_count bs = block_records * (blocks bs - 1) + record_count bs (file_block (blocks bs) (blocks bs - 1))

-- where byte i of the records stands: 468 of them to a block, from its byte 4 on
abbrev pub file_place : ℕ → ℕ
file_place i = block_bytes * (i / block_record_bytes) + records_in_block + i % block_record_bytes

-- the records of a file, one after the other as in memory
unfoldable pub file_records : List ℕ → List ℕ
file_records bs = table (record_bytes * file_count bs) (λ i. byte bs (file_place i))

-- ---- writing
-- how many blocks n records fill
abbrev pub blocks_for : ℕ → ℕ
blocks_for n = (n + (block_records - 1)) / block_records

-- block k of the file of a converter
unfoldable pub written_block : List ℕ → ℕ → List ℕ
written_block cs k =
    sealed converter_kind (min block_records (records cs - block_records * k)) (block_records * k) (part cs (block_record_bytes * k) block_record_bytes)

unfoldable pub written : List ℕ → List ℕ
written cs = flatten (table (blocks_for (records cs)) (written_block cs))
