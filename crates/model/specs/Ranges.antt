-- Specification, "Waits known by range": how often chosen delayed states of a side may wait. First what the ranges allow, said of the side's own table; then the table in
-- which states count. `proofs/Ranges` `same_runs` shows that the runs of the one are those of the other.
use Rattle.std.specs.Prelude.{◌≡◌, Bool, true, ◌&&◌, cond, ℕ, zero, suc, ◌+◌, ◌≤◌, ◌<◌, min, T, eqb, leb, ltb, length, set}
use mathlib.Core.List.{List, [], ◌∷◌, ◌++◌, map, flatten, Memᴰ as In}
use Rattle.model.specs.Events.{Event, tick, sent, same_event}
use Rattle.model.specs.Sides.{Move, State, Side, state, IsDelayed}
use Rattle.model.specs.Judged.{all}

-- ---- ranges
-- a greatest count of waits, or none
pub data Greatest : Type 0 where
  up_to : ℕ → Greatest
  none : Greatest

-- state number `state` of a side waits so often at least, and so often at most
pub record Range : Type 0 where
  pub state : ℕ
  pub least : ℕ
  pub greatest : Greatest

abbrev pub below : ℕ → Greatest → Bool
below n (up_to g) = ltb n g
below n none = true

-- ---- runs of a table: from state s it takes the events es, and ws are the label words along them, that of s first
abbrev pub Takes : Side → ℕ → List Event → List ℕ → Type 0
Takes S s [] ws = ws ≡ (state S s).label ∷ []
Takes S s (e ∷ es) ws =
    (m : Move) × (vs : List ℕ) × In m (state S s).moves × (m.event ≡ e) × (ws ≡ (state S s).label ∷ vs) × Takes S m.target es vs

-- ---- runs under ranges: the side is in a state, and has waited there so often since it was entered
pub record Counted : Type 0 where
  pub state : ℕ
  pub waits : ℕ

abbrev pub entered : ℕ → Counted
entered s = record { state = s; waits = 0 }

-- a tick back to its own state is a wait; by every other move, also by a send that leads back, a state is entered
abbrev pub is_wait : ℕ → Move → Bool
is_wait s m = same_event m.event tick && eqb m.target s

unfoldable pub led : Counted → Move → Counted
led c m = record { state = m.target; waits = cond (is_wait c.state m) (suc c.waits) 0 }

-- a range allows its state a tick below the greatest count, and a send from the least on
unfoldable pub allows : Range → Counted → Event → Bool
allows r c e = cond (eqb r.state c.state) (cond (sent e) (leb r.least c.waits) (below c.waits r.greatest)) true

abbrev pub TakesUnder : Side → List Range → Counted → List Event → List ℕ → Type 0
TakesUnder S rs c [] ws = ws ≡ (state S c.state).label ∷ []
TakesUnder S rs c (e ∷ es) ws =
    (m : Move) × (vs : List ℕ) × In m (state S c.state).moves × (m.event ≡ e) × T (all (λ r. allows r c e) rs) × (ws ≡ (state S c.state).label ∷ vs)
    × TakesUnder S rs (led c m) es vs

-- ---- the table in which states count
-- the last count that has a state: with no greatest it is the least
abbrev pub last_count : Range → ℕ
last_count r = by r.greatest
  where
    by : Greatest → ℕ
    by (up_to g) = g
    by none = r.least

-- count 0 is the state's old number; the later counts stand from number n on
abbrev pub count_number : Range → ℕ → ℕ → ℕ
count_number r n zero = r.state
count_number r n (suc k) = n + k

-- where a tick leads from count k: to the next count, or where that has no state back to the last
abbrev pub onward : Range → ℕ → ℕ → ℕ
onward r n k = count_number r n (min (suc k) (last_count r))

-- what stands for a move of the state at count k: a send from the least on, and below the greatest a tick onward
unfoldable pub counted_move : Range → ℕ → ℕ → Move → List Move
counted_move r n k m =
    cond (sent m.event) (cond (leb r.least k) (m ∷ []) [])
    (cond (below k r.greatest) (record { event = m.event; target = onward r n k } ∷ []) [])

-- count k of the state q: its labels, and its moves in their order
unfoldable pub counted : Range → ℕ → State → ℕ → State
counted r n q k = record { label = q.label; moves = flatten (map (counted_move r n k) q.moves) }

-- counts k, k + 1, .., j of them
unfoldable pub counts : Range → ℕ → State → ℕ → ℕ → List State
counts r n q k zero = []
counts r n q k (suc j) = counted r n q k ∷ counts r n q (suc k) j

-- one state replaced: count 0 in its place, the later counts behind the last state
unfoldable pub replaced : Side → Range → Side
replaced S r =
    set S r.state (counted r (length S) (state S r.state) 0) ++ counts r (length S) (state S r.state) 1 (last_count r)

-- and all of them, in order
unfoldable pub ranged : Side → List Range → Side
ranged S [] = S
ranged S (r ∷ rs) = ranged (replaced S r) rs

-- ---- ranges that fit a side
-- a delayed state, with its tick to itself
abbrev pub WaitsItself : ℕ → State → Type 0
WaitsItself s q = (d : IsDelayed q) × (d.1.target ≡ s)

abbrev pub Within : Range → Type 0
Within r = by r.greatest
  where
    by : Greatest → Type 0
    by (up_to g) = r.least ≤ g
    by none = Unit {0}

pub record Fits (S : Side) (r : Range) : Type 0 where
  pub there : r.state < length S
  pub waits : WaitsItself r.state (state S r.state)
  pub within : Within r

-- each fits, and no state is named twice
abbrev pub AllFit : Side → List Range → Type 0
AllFit S [] = Unit {0}
AllFit S (r ∷ rs) = Fits S r × ((p : Range) → In p rs → p.state ≡ r.state → ⊥) × AllFit S rs
