-- Specification, "Bytes" and "When a call declines": the lent list. Four bytes an entry: side, state, least, greatest; what it says of each side, and what 22 and 23 refuse.
use Rattle.std.specs.Prelude.{Bool, ◌&&◌, ◌||◌, cond, ℕ, ◌+◌, ◌*◌, ◌/◌, ◌%◌, eqb, leb, ltb, length}
use mathlib.Core.List.{List, [], ◌∷◌, flatten}
use Rattle.model.specs.Sides.{Move, State, Side, state}
use Rattle.model.specs.Designs.{Design}
use Rattle.model.specs.Ranges.{up_to, none, Range, ranged}
use Rattle.layout.specs.Sizes.{side_count, most_states}
use Rattle.layout.specs.Tables.{table, every, distinct}
use Rattle.layout.specs.Bytes.{byte}
use Rattle.layout.specs.Tests.{move, sends_or_waits}
use Rattle.layout.specs.Designs.{design, side}
use Rattle.ranges.specs.declared.entries.Entry.{Entry}

abbrev pub entry_bytes : ℕ
entry_bytes = 4

-- counts of waits are 0 to 15
abbrev pub most_waits : ℕ
most_waits = 15

-- what stands for no greatest
abbrev pub no_greatest : ℕ
no_greatest = 255

-- ---- reading
abbrev pub entry_count : List ℕ → ℕ
entry_count es = length es / entry_bytes

unfoldable pub entry_at : List ℕ → ℕ → Entry
entry_at es j =
    record {
      side = byte es (entry_bytes * j);
      state = byte es (entry_bytes * j + 1);
      least = byte es (entry_bytes * j + 2);
      greatest = byte es (entry_bytes * j + 3);
    }

-- the model's range
unfoldable pub range_of : Entry → Range
range_of e = record { state = e.state; least = e.least; greatest = cond (eqb e.greatest no_greatest) none (up_to e.greatest) }

-- the range of an entry for side i
abbrev pub of_side : ℕ → Entry → List Range
of_side i e = cond (eqb e.side i) (range_of e ∷ []) []

-- the ranges of side i that the first n entries give, in their order; and all
unfoldable pub ranges_to : List ℕ → ℕ → ℕ → List Range
ranges_to es i n = flatten (table n (λ j. of_side i (entry_at es j)))

abbrev pub side_ranges : List ℕ → ℕ → List Range
side_ranges es i = ranges_to es i (entry_count es)

-- side i after replacement
abbrev pub new_side : List ℕ → List ℕ → ℕ → Side
new_side ds es i = ranged (side (design ds) i) (side_ranges es i)

-- ---- 22
-- the first of the two is sent, and the second ticks back to state s
abbrev pub sends_or_returns : ℕ → Move → Move → Bool
sends_or_returns s m w = sends_or_waits m w && eqb w.target s

-- a delayed state with its tick to itself: exactly two, in either order
unfoldable pub waits_itself : ℕ → State → Bool
waits_itself s q = eqb (length q.moves) 2 && (sends_or_returns s (move q 0) (move q 1) || sends_or_returns s (move q 1) (move q 0))

-- one entry: a side, a state of it that is there and waits by a tick to itself, counts within their limits, and the least not above the greatest
unfoldable pub entry_right : Design → Entry → Bool
entry_right D e =
    ltb e.side side_count
    && ltb e.state (length (side D e.side))
    && waits_itself e.state (state (side D e.side) e.state)
    && leb e.least most_waits
    && (leb e.greatest most_waits || eqb e.greatest no_greatest)
    && leb e.least e.greatest

-- two entries for one state
abbrev pub same_state : Entry → Entry → Bool
same_state a b = eqb a.side b.side && eqb a.state b.state

-- whole entries, each of them right, and no state named twice
unfoldable pub list_right : List ℕ → List ℕ → Bool
list_right ds es =
    eqb (length es % entry_bytes) 0
    && every (entry_count es) (λ j. entry_right (design ds) (entry_at es j))
    && distinct (entry_count es) (λ i j. same_state (entry_at es i) (entry_at es j))

-- ---- 23: at most 16 states a side after replacement
unfoldable pub sides_fit : List ℕ → List ℕ → Bool
sides_fit ds es = every side_count (λ i. leb (length (new_side ds es i)) most_states)
