-- Specification, "Bytes": a converter in memory is its records, 52 bytes each; from these bytes to the model's `Converter`.
use Rattle.std.specs.Prelude.{ℕ, ◌*◌, ◌/◌, List, length}
use Rattle.model.specs.Converters.{Converter}
use Rattle.layout.specs.Sizes.{record_bytes}
use Rattle.layout.specs.Tables.{table}
use Rattle.layout.specs.Records.{record_at, node_of}

-- how many records there are
abbrev pub records : List ℕ → ℕ
records cs = length cs / record_bytes

unfoldable pub converter : List ℕ → Converter
converter cs = table (records cs) (λ k. node_of (record_at cs (record_bytes * k)))
