-- Specification, "Events and states": a side is a table of states; the three kinds of a state; and refusals 5 and 6 as predicates on tables.
use Rattle.std.specs.Prelude.{◌≡◌, Bool, false, not, ◌||◌, cond, ◌⊎◌, ℕ, ◌≤◌, ◌<◌, T, eqb, length, get_or}
use mathlib.Core.List.{List, [], ◌∷◌, Memᴰ as In}
use Rattle.model.specs.Events.{Event, tick, sent, InRange}

-- the specification's transition of a side's state
pub record Move : Type 0 where
  pub event : Event
  pub target : ℕ

-- Bit k of the label word is set where the side's label k holds: 16 bits in the specification; no proposition is a higher one.
pub record State : Type 0 where
  pub label : ℕ
  pub moves : List Move

-- the states in order; state 0 is the start
abbrev pub Side : Type 0
Side = List State

-- what stands past the end of a table
abbrev pub no_move : Move
no_move = record { event = tick; target = 0 }

abbrev pub no_state : State
no_state = record { label = 0; moves = [] }

abbrev pub state : Side → ℕ → State
state S s = get_or S s no_state

-- ---- the three kinds (the paper, section 4.1), each as the specification says it, of a state with the table line q
pub data Kind : Type 0 where
  input output_only delayed : Kind

-- no sent event
abbrev pub IsInput : State → Type 0
IsInput q = (m : Move) → In m q.moves → T (not (sent m.event))

-- a single transition, sent
abbrev pub IsOutputOnly : State → Type 0
IsOutputOnly q = (m : Move) × (q.moves ≡ m ∷ []) × T (sent m.event)

-- exactly two, in either order: one sent (m) and a tick (w), to whichever states they lead
abbrev pub IsDelayed : State → Type 0
IsDelayed q = (m : Move) × (w : Move) × ((q.moves ≡ m ∷ w ∷ []) ⊎ (q.moves ≡ w ∷ m ∷ [])) × T (sent m.event) × (w.event ≡ tick)

abbrev pub IsKind : Kind → State → Type 0
IsKind input q = IsInput q
IsKind output_only q = IsOutputOnly q
IsKind delayed q = IsDelayed q

unfoldable pub any_sent : List Move → Bool
any_sent [] = false
any_sent (m ∷ ms) = sent m.event || any_sent ms

-- The kind of a state that has one. (`proofs/StateKinds` shows that this is the only k with `IsKind k`.)
unfoldable pub kind : State → Kind
kind q = cond (any_sent q.moves) (cond (eqb (length q.moves) 1) output_only delayed) input

-- ---- well-formed sides
-- refusal 5, of one state of a side that has n: 1 to 8 transitions, events in range and none twice, targets that are states
pub record WellFormedState (n : ℕ) (q : State) : Type 0 where
  pub some_move : 1 ≤ length q.moves
  pub at_most_eight : length q.moves ≤ 8
  pub in_range : (m : Move) → In m q.moves → InRange m.event
  pub once : (j k : ℕ) → j < length q.moves → k < length q.moves
      → (get_or q.moves j no_move).event ≡ (get_or q.moves k no_move).event → j ≡ k
  pub inside : (m : Move) → In m q.moves → m.target < n

-- refusal 6: a state of one of the three kinds
abbrev pub HasKind : State → Type 0
HasKind q = (k : Kind) × IsKind k q

-- refusals 5 and 6 of each state, and 1 to 16 states (refusal 4)
pub record WellFormedSide (S : Side) : Type 0 where
  pub some_state : 1 ≤ length S
  pub at_most_sixteen : length S ≤ 16
  pub each : (s : ℕ) → s < length S → WellFormedState (length S) (state S s)
  pub kinds : (s : ℕ) → s < length S → HasKind (state S s)
