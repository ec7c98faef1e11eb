-- Specification, "Bytes": places and bytes not used are zero. The four layouts of a record, their sizes, and the unused bytes of a record of each.
use Rattle.std.specs.Prelude.{ℕ, ◌+◌, ◌-◌, ◌*◌, List, [], ◌∷◌, ◌++◌}
use Rattle.layout.specs.Sizes.{side_count, place_count, state_bytes, formula_bytes, rule_bytes, record_bytes, count_at, edge_count_at, places_at, gap_at, move_bytes, transition_bytes}
use Rattle.layout.specs.Tables.{table}
use Rattle.layout.specs.Bytes.{byte, part}
use Rattle.layout.specs.Formulas.{form_at, absent}

pub data Layout : Type 0 where
  state_record formula_record rule_record converter_record : Layout

abbrev pub size : Layout → ℕ
size state_record = state_bytes
size formula_record = formula_bytes
size rule_record = rule_bytes
size converter_record = record_bytes

-- the places behind the first n
abbrev pub places_behind : ℕ → ℕ → List ℕ → ℕ → List ℕ
places_behind n width bs at = part bs (at + places_at + width * n) (width * (place_count - n))

-- the byte of each of the first n places of a converter record that stands between its events and the next record
abbrev pub place_gaps : ℕ → List ℕ → ℕ → List ℕ
place_gaps n bs at = table n (λ k. byte bs (at + places_at + transition_bytes * k + side_count))

-- the unused bytes of the record that stands at `at`
unfoldable pub unused : Layout → List ℕ → ℕ → List ℕ
unused state_record bs at = byte bs (at + gap_at) ∷ places_behind (byte bs (at + count_at)) move_bytes bs at
unused formula_record bs at = byte bs (at + gap_at) ∷ absent (form_at bs at) (byte bs (at + 1)) (byte bs (at + 2))
unused rule_record bs at = []
unused converter_record bs at = place_gaps (byte bs (at + edge_count_at)) bs at ++ places_behind (byte bs (at + edge_count_at)) transition_bytes bs at
