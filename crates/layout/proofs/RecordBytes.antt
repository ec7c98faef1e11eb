-- The bytes of a converter record: how many there are of each part.
use Rattle.std.proofs.Common.{◌≡◌, ℕ, ◌+◌, ◌*◌, List, length, get_or, refl, ◌∙◌, ap₂, length-append}
use mathlib.Core.List.{flatten}
use Rattle.model.specs.Events.{Event, tick}
use Rattle.layout.specs.declared.records.Transition.{Transition}
use Rattle.layout.specs.declared.records.Record.{Record}
use Rattle.layout.specs.Sizes.{side_count, place_count, record_bytes, places_at, transition_bytes}
use Rattle.layout.specs.Tables.{table, table_from}
use Rattle.layout.specs.Bytes.{event_byte}
use Rattle.layout.specs.Records.{no_transition, names_to, events_to, transition_to, header_to, places_to, record_to}
use Rattle.layout.proofs.Tables.{length_table}
use Rattle.layout.proofs.Pieces.{length_pieces}

pub length_names : (ss : List ℕ) → length (names_to ss) ≡ side_count
length_names ss = length_table (λ i. get_or ss i 0) side_count

pub length_events : (es : List Event) → length (events_to es) ≡ side_count
length_events es = length_table (λ i. event_byte (get_or es i tick)) side_count

pub length_transition : (t : Transition) → length (transition_to t) ≡ transition_bytes
unfolding table table_from
length_transition t = refl

pub length_header : (r : Record) → length (header_to r) ≡ places_at
unfolding table table_from
length_header r = refl

-- the bytes of place k, and of the first k places
abbrev pub place_to : Record → ℕ → List ℕ
place_to r k = transition_to (get_or r.places k no_transition)

abbrev pub first_places_to : Record → ℕ → List ℕ
first_places_to r k = flatten (table k (place_to r))

pub length_first_places : (r : Record) (k : ℕ) → length (first_places_to r k) ≡ transition_bytes * k
length_first_places r k = length_pieces (place_to r) transition_bytes (λ j. length_transition (get_or r.places j no_transition)) k

pub length_places : (r : Record) → length (places_to r) ≡ transition_bytes * place_count
unfolding places_to
length_places r = length_first_places r place_count

pub length_record : (r : Record) → length (record_to r) ≡ record_bytes
length_record r = length-append (header_to r) (places_to r) ∙ ap₂ ◌+◌ (length_header r) (length_places r)
