-- Specification, "Bytes": a converter record, 52 bytes: a state of each of the three sides, count, then eight times (an event for each of the three sides, 0, next
-- record as 16 bits). And what it is to add a transition to a record.
use Rattle.std.specs.Prelude.{ℕ, ◌+◌, ◌*◌, Bool, cond, not, List, [], ◌∷◌, ◌++◌, get_or, nat_lt, slice_index, slice_index_or, slice_set}
use mathlib.Core.List.{flatten}
use Rattle.model.specs.Events.{Event, tick}
use Rattle.model.specs.Converters.{Edge, Node}
use Rattle.model.specs.Judged.{same_events}
use Rattle.layout.specs.declared.records.Transition.{Transition}
use Rattle.layout.specs.declared.records.Record.{Record}
use Rattle.layout.specs.declared.records.Outcome.TheVariants.{Added, Present, Full}
use Rattle.layout.specs.declared.records.Addition.{Addition}
use Rattle.layout.specs.Sizes.{side_count, place_count, edge_count_at, places_at, transition_bytes, next_at}
use Rattle.layout.specs.Tables.{table, every}
use Rattle.layout.specs.Bytes.{byte, word, event_of, event_byte, word_bytes}

-- ---- reading
-- a side state for each side, and an event for each side, from a place on
abbrev pub names_at : List ℕ → ℕ → List ℕ
names_at bs at = table side_count (λ i. byte bs (at + i))

abbrev pub events_at : List ℕ → ℕ → List Event
events_at bs at = table side_count (λ i. event_of (byte bs (at + i)))

-- place k of the converter record that stands at `at`
unfoldable pub transition_at : List ℕ → ℕ → ℕ → Transition
transition_at bs at k =
    record {
      events = events_at bs (at + places_at + transition_bytes * k);
      next = word bs (at + places_at + transition_bytes * k + next_at);
    }

unfoldable pub record_at : List ℕ → ℕ → Record
record_at bs at = record { names = names_at bs at; count = byte bs (at + edge_count_at); places = table place_count (transition_at bs at) }

-- ---- the model's converter state
abbrev pub no_transition : Transition
no_transition = record { events = []; next = 0 }

abbrev pub edge_of : Transition → Edge
edge_of t = record { events = t.events; next = t.next }

-- As many transitions as the count says, also where it is over 8 (which is refused, 11).
unfoldable pub node_of : Record → Node
node_of r = record { names = r.names; edges = table r.count (λ k. edge_of (slice_index_or r.places k no_transition)) }

-- ---- writing
abbrev pub names_to : List ℕ → List ℕ
names_to ss = table side_count (λ i. slice_index ss i)

abbrev pub events_to : List Event → List ℕ
events_to es = table side_count (λ i. event_byte (slice_index_or es i tick))

abbrev pub transition_to : Transition → List ℕ
transition_to t = events_to t.events ++ (0 ∷ word_bytes t.next)

-- the names and the count
abbrev pub header_to : Record → List ℕ
header_to r = names_to r.names ++ (r.count ∷ [])

unfoldable pub places_to : Record → List ℕ
places_to r = flatten (table place_count (λ k. transition_to (slice_index_or r.places k no_transition)))

-- the 52 bytes of a record
abbrev pub record_to : Record → List ℕ
record_to r = header_to r ++ places_to r

-- ---- at least one transition, and no events twice
-- a transition that names no next record and no event: what stands in a place that is not used
abbrev pub unused_transition : Transition
unused_transition = record { events = table side_count (λ i. event_of 0); next = 0 }

-- a record that names these side states and has no transition yet
unfoldable pub named : List ℕ → Record
named ss = record { names = ss; count = 0; places = table place_count (λ k. unused_transition) }

-- the record has a transition for these events
unfoldable pub present : Record → List Event → Bool
present r es = not (every r.count (λ k. not (same_events (get_or r.places k no_transition).events es)))

-- one transition more; or the record as it is, where the events are there already, or all places are used
unfoldable pub added : Record → Transition → Addition
added r t =
    cond (present r t.events) (record { outcome = Present; left = r })
    (cond (nat_lt r.count place_count)
    (record { outcome = Added; left = record { names = r.names; count = r.count + 1; places = slice_set r.places r.count t } })
    (record { outcome = Full; left = r }))
