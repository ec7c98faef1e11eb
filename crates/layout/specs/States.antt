-- Specification, "Bytes": a state record, 20 bytes: label word (2), transition count, 0, eight times (event, target).
use Rattle.std.specs.Prelude.{ℕ, ◌+◌, ◌*◌, List, [], ◌∷◌, ◌++◌, length, slice_index_or}
use mathlib.Core.List.{flatten}
use Rattle.model.specs.Events.{tick}
use Rattle.model.specs.Sides.{Move, State, no_move}
use Rattle.layout.specs.declared.states.Place.{Place}
use Rattle.layout.specs.declared.states.StateRecord.{StateRecord}
use Rattle.layout.specs.Sizes.{place_count, count_at, places_at, move_bytes}
use Rattle.layout.specs.Tables.{table}
use Rattle.layout.specs.Bytes.{byte, word, event_of, event_byte, word_bytes}

-- place k of the state record that stands at `at`
unfoldable pub place_at : List ℕ → ℕ → ℕ → Place
place_at bs at k = record { event = event_of (byte bs (at + places_at + move_bytes * k)); target = byte bs (at + places_at + move_bytes * k + 1) }

unfoldable pub state_at : List ℕ → ℕ → StateRecord
state_at bs at = record { label = word bs at; count = byte bs (at + count_at); places = table place_count (place_at bs at) }

-- ---- the model's state
abbrev pub no_place : Place
no_place = record { event = tick; target = 0 }

abbrev pub move_of : Place → Move
move_of p = record { event = p.event; target = p.target }

-- As many transitions as the count says. (A count over 8 is refused, 5; so that the model's state is then ill formed too, it has more than eight.)
unfoldable pub state_of : StateRecord → State
state_of q = record { label = q.label; moves = table q.count (λ k. move_of (slice_index_or q.places k no_place)) }

-- ---- writing
abbrev pub move_to : Move → List ℕ
move_to m = event_byte m.event ∷ m.target ∷ []

-- the places of a state; past its transitions stands the tick to 0, which is written as zeros
unfoldable pub moves_to : State → List ℕ
moves_to q = flatten (table place_count (λ k. move_to (slice_index_or q.moves k no_move)))

-- the 20 bytes of a state
unfoldable pub state_to : State → List ℕ
state_to q = word_bytes q.label ++ (length q.moves ∷ 0 ∷ []) ++ moves_to q
