-- The bytes of a state; and a state that is read back from its bytes, and its bytes from it.
use Rattle.std.proofs.Common.{◌≡◌, ℕ, zero, suc, ◌+◌, ◌-◌, ◌*◌, ◌/◌, ◌%◌, ◌<◌, ◌≤◌, true, eqb, List, [], ◌∷◌, ◌++◌, length, get_or, sym, refl, ap, ◌∙◌, ap₂, arith, length-append, get_or-append-add, eq-eqb, eqb-true}
use mathlib.Core.List.{flatten, Memᴰ as In}
use native.Mathlib.Decide.{dec_lt}
use lib.ListN.{get_or-eq_default}
use Rattle.model.specs.Events.{InRange}
use Rattle.model.specs.Sides.{Move, State, no_move}
use Rattle.model.specs.Judged.{all}
use Rattle.model.proofs.Lists.{get_or_in}
use Rattle.layout.specs.Sizes.{place_count, state_bytes, count_at, gap_at, places_at, move_bytes}
use Rattle.layout.specs.Tables.{table}
use Rattle.layout.specs.Bytes.{byte, word, part, all_zero, event_of, event_byte, word_bytes}
use Rattle.layout.specs.States.{place_at, state_at, no_place, move_of, state_of, move_to, moves_to, state_to}
use Rattle.layout.specs.Unused.{state_record, places_behind, unused}
use Rattle.layout.proofs.Tables.{and_true, and_left, and_right, entry, table_same, as_table}
use Rattle.layout.proofs.Parts.{byte_is, part_is, zeros, zero_at}
use Rattle.layout.proofs.Pieces.{length_pieces}
use Rattle.layout.proofs.EqualPieces.{piece_byte}
use Rattle.layout.proofs.RecordMoves.{moves_length, move_at, move_past}
use Rattle.layout.proofs.SignedBytes.{event_back, byte_back}

-- ---- the bytes of move k, and of the first k moves
abbrev pub nth_move_to : State → ℕ → List ℕ
nth_move_to q k = move_to (get_or q.moves k no_move)

abbrev pub first_moves_to : State → ℕ → List ℕ
first_moves_to q k = flatten (table k (nth_move_to q))

pub length_first_moves : (q : State) (k : ℕ) → length (first_moves_to q k) ≡ move_bytes * k
length_first_moves q k = length_pieces (nth_move_to q) move_bytes (λ j. refl) k

pub length_moves : (q : State) → length (moves_to q) ≡ move_bytes * place_count
unfolding moves_to
length_moves q = length_first_moves q place_count

-- the label, the count and a zero
abbrev head_to : State → List ℕ
head_to q = word_bytes q.label ++ (length q.moves ∷ 0 ∷ [])

pub length_state : (q : State) → length (state_to q) ≡ state_bytes
unfolding state_to
length_state q = length-append (head_to q) (moves_to q) ∙ ap (λ n. 4 + n) (length_moves q)

-- ---- byte by byte
module _ (q : State) where
  low_label : byte (state_to q) 0 ≡ q.label % 256
  unfolding state_to
  low_label = refl

  high_label : byte (state_to q) 1 ≡ q.label / 256
  unfolding state_to
  high_label = refl

  count_to : byte (state_to q) count_at ≡ length q.moves
  unfolding state_to
  count_to = refl

  gap_to : byte (state_to q) gap_at ≡ 0
  unfolding state_to
  gap_to = refl

  -- byte d of place k
  place_to : (k d : ℕ) → k < place_count → d < move_bytes → byte (state_to q) (places_at + (move_bytes * k + d)) ≡ byte (nth_move_to q k) d
  unfolding state_to moves_to
  place_to k d h l =
      get_or-append-add (head_to q) (moves_to q) (move_bytes * k + d) 0 ∙ piece_byte (nth_move_to q) move_bytes (λ j. refl) place_count k d h l

-- a place that is not used is zeros
no_move_zero : (d : ℕ) → d < move_bytes → byte (move_to no_move) d ≡ 0
unfolding event_byte
no_move_zero zero h = refl
no_move_zero (suc zero) h = refl
no_move_zero (suc (suc d)) h = absurd (omega arith)

-- ---- the bytes of a state stand from `at` on
module _ (q : State) (bs : List ℕ) (at : ℕ) (here : part bs at state_bytes ≡ state_to q) where
  label_back : word bs at ≡ q.label
  label_back =
      let z : at ≡ at + 0 = omega arith in
      let low = ap (byte bs) z ∙ byte_is bs at state_bytes (state_to q) here 0 (omega arith) ∙ low_label q in
      let high = byte_is bs at state_bytes (state_to q) here 1 (omega arith) ∙ high_label q in
      omega arith

  count_back : byte bs (at + count_at) ≡ length q.moves
  count_back = byte_is bs at state_bytes (state_to q) here count_at (omega arith) ∙ count_to q

  place_byte : (k d : ℕ) → k < place_count → d < move_bytes → byte bs (at + places_at + move_bytes * k + d) ≡ byte (nth_move_to q k) d
  place_byte k d h l =
      ap (byte bs) (omega arith) ∙ byte_is bs at state_bytes (state_to q) here (places_at + (move_bytes * k + d)) (omega arith) ∙ place_to q k d h l

  place_back : (k : ℕ) → k < place_count → InRange (get_or q.moves k no_move).event → move_of (place_at bs at k) ≡ get_or q.moves k no_move
  unfolding place_at
  place_back k h r =
      let m = get_or q.moves k no_move in
      let z : at + places_at + move_bytes * k ≡ at + places_at + move_bytes * k + 0 = omega arith in
      ap₂ {C = Move} (λ e t. record { event = e; target = t })
      (ap event_of (ap (byte bs) z ∙ place_byte k 0 h (omega arith)) ∙ event_back m.event r)
      (place_byte k 1 h (omega arith))

-- a state is read back from its bytes
pub read_state_to : (q : State) (bs : List ℕ) (at : ℕ) → length q.moves ≤ place_count
    → ((m : Move) → In m q.moves → InRange m.event) → part bs at state_bytes ≡ state_to q → state_of (state_at bs at) ≡ q
unfolding state_of state_at
read_state_to q bs at few ranged here =
    λ i. record { label = label_back q bs at here i; moves = moves i }
  where
    f : ℕ → Move
    f k = move_of (get_or (table place_count (place_at bs at)) k no_place)

    each : (k : ℕ) → k < length q.moves → f k ≡ get_or q.moves k no_move
    each k h =
        ap move_of (entry (place_at bs at) no_place place_count k (omega arith))
        ∙ place_back q bs at here k (omega arith) (ranged (get_or q.moves k no_move) (get_or_in q.moves k no_move h))

    moves : table (byte bs (at + count_at)) f ≡ q.moves
    moves =
        ap (λ n. table n f) (count_back q bs at here)
        ∙ table_same f (λ k. get_or q.moves k no_move) (length q.moves) each
        ∙ sym (as_table no_move (length q.moves) q.moves refl)

-- and the bytes that it doesn't use are zeros
pub unused_to : (q : State) (bs : List ℕ) (at : ℕ) → length q.moves ≤ place_count → at + state_bytes ≤ length bs → part bs at state_bytes ≡ state_to q
    → all_zero (unused state_record bs at) ≡ true
unfolding unused all_zero all
unused_to q bs at few fits here =
    ap (λ c. all_zero (byte bs (at + gap_at) ∷ places_behind c move_bytes bs at)) (count_back q bs at here)
    ∙ and_true (eqb (byte bs (at + gap_at)) 0) (all_zero (places_behind n move_bytes bs at))
    (eq-eqb (byte bs (at + gap_at)) 0 (byte_is bs at state_bytes (state_to q) here gap_at (omega arith) ∙ gap_to q))
    (zeros bs (at + places_at + move_bytes * n) (move_bytes * (place_count - n)) (omega arith) zero_byte)
  where
    n : ℕ
    n = length q.moves

    zero_byte : (j : ℕ) → j < move_bytes * (place_count - n) → byte bs (at + places_at + move_bytes * n + j) ≡ 0
    zero_byte j h =
        ap (byte bs) (omega arith)
        ∙ place_byte q bs at here (n + j / move_bytes) (j % move_bytes) (omega arith) (omega arith)
        ∙ ap (λ (m : Move). byte (move_to m) (j % move_bytes)) (get_or-eq_default q.moves no_move (omega arith))
        ∙ no_move_zero (j % move_bytes) (omega arith)

-- ---- the state that is read at `at`
module _ (bs : List ℕ) (at : ℕ) (bytes : (i : ℕ) → byte bs i < 256) (fits : at + state_bytes ≤ length bs) (few : byte bs (at + count_at) ≤ place_count) (none : all_zero (unused state_record bs at) ≡ true) where
  abbrev read : State
  read = state_of (state_at bs at)

  abbrev n : ℕ
  n = byte bs (at + count_at)

  label_same : read.label ≡ word bs at
  unfolding state_of state_at
  label_same = refl

  count_same : length read.moves ≡ n
  unfolding state_at
  count_same = moves_length (state_at bs at)

  -- the byte behind the count, and the places behind the moves
  gap_zero : byte bs (at + gap_at) ≡ 0
  unfolding unused all_zero all
  gap_zero = eqb-true (byte bs (at + gap_at)) 0 (and_left (eqb (byte bs (at + gap_at)) 0) (all_zero (places_behind n move_bytes bs at)) none)

  behind_zero : (j : ℕ) → j < move_bytes * (place_count - n) → byte bs (at + places_at + move_bytes * n + j) ≡ 0
  unfolding unused all_zero all
  behind_zero =
      zero_at bs (at + places_at + move_bytes * n) (move_bytes * (place_count - n)) (omega arith)
      (and_right (eqb (byte bs (at + gap_at)) 0) (all_zero (places_behind n move_bytes bs at)) none)

  -- byte d of a place that is read
  move_byte : (k d : ℕ) → d < move_bytes → byte (move_to (move_of (place_at bs at k))) d ≡ byte bs (at + places_at + move_bytes * k + d)
  unfolding place_at
  move_byte k zero h = byte_back (byte bs (at + places_at + move_bytes * k)) (bytes (at + places_at + move_bytes * k)) ∙ ap (byte bs) (omega arith)
  move_byte k (suc zero) h = refl
  move_byte k (suc (suc d)) h = absurd (omega arith)

  nth_same : (k d : ℕ) → k < place_count → d < move_bytes → byte (nth_move_to read k) d ≡ byte bs (at + places_at + move_bytes * k + d)
  unfolding state_at
  nth_same k d h l = by (dec_lt k n)
    where
      by : Dec (k < n) → byte (nth_move_to read k) d ≡ byte bs (at + places_at + move_bytes * k + d)
      by (yes u) =
          ap (λ (m : Move). byte (move_to m) d) (move_at (state_at bs at) k u ∙ ap move_of (entry (place_at bs at) no_place place_count k h)) ∙ move_byte k d l
      by (no u) =
          ap (λ (m : Move). byte (move_to m) d) (move_past (state_at bs at) k (omega arith))
          ∙ no_move_zero d l
          ∙ sym (ap (byte bs) (omega arith) ∙ behind_zero (move_bytes * (k - n) + d) (omega arith))

  byte_same : (r : ℕ) → r < state_bytes → byte (state_to read) r ≡ byte bs (at + r)
  byte_same zero h =
      let z : at ≡ at + 0 = omega arith in
      low_label read ∙ omega (arith, label_same, bytes at, ap (byte bs) z)
  byte_same (suc zero) h = high_label read ∙ omega (arith, label_same, bytes at)
  byte_same (suc (suc zero)) h = count_to read ∙ count_same
  byte_same (suc (suc (suc zero))) h = gap_to read ∙ sym gap_zero
  byte_same (suc (suc (suc (suc i)))) h =
      let z : suc (suc (suc (suc i))) ≡ places_at + (move_bytes * (i / move_bytes) + i % move_bytes) = omega arith in
      ap (byte (state_to read)) z
      ∙ place_to read (i / move_bytes) (i % move_bytes) (omega arith) (omega arith)
      ∙ nth_same (i / move_bytes) (i % move_bytes) (omega arith) (omega arith)
      ∙ ap (byte bs) (omega arith)

-- the bytes of a state that is read are those that it was read from
pub state_to_read : (bs : List ℕ) (at : ℕ) → ((i : ℕ) → byte bs i < 256) → at + state_bytes ≤ length bs → byte bs (at + count_at) ≤ place_count
    → all_zero (unused state_record bs at) ≡ true → state_to (state_of (state_at bs at)) ≡ part bs at state_bytes
state_to_read bs at bytes fits few none =
    let q = state_of (state_at bs at) in
    part_is bs at state_bytes (state_to q) fits (length_state q) (byte_same bs at bytes fits few none)
