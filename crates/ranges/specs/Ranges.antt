-- Specification, "Waits known by range": the call. Which refusal it answers, every byte of the new design, and what each lent byte is after.
use Rattle.std.specs.Prelude.{◌≡◌, cond, ℕ, ◌*◌, eqb, leb, length, drop, Result}
use mathlib.Core.List.{List, [], ◌∷◌, ◌++◌, map, flatten}
use Rattle.model.specs.Sides.{Side}
use Rattle.layout.specs.Sizes.{block_bytes}
use Rattle.layout.specs.Tables.{table}
use Rattle.layout.specs.States.{state_to}
use Rattle.layout.specs.Blocks.{sealed}
use Rattle.layout.specs.Designs.{held, side_block}
use Rattle.refusals.specs.declared.refusal.Refusal.{Refusal}
use Rattle.refusals.specs.Answered.{Answer, done, refused, answered}
use Rattle.refusals.specs.Refusals.{Test, first_failing, design_tests, left_by}
use Rattle.ranges.specs.Entries.{new_side, list_right, sides_fit}

-- ---- refusals 1 to 8 of the design, 22, 23 and 12, where so many bytes are lent for the result
abbrev pub own_tests : List ℕ → List ℕ → ℕ → List Test
own_tests ds es room =
    record { number = 22; passes = list_right ds es } ∷ record { number = 23; passes = sides_fit ds es } ∷ record { number = 12; passes = leb (length ds) room } ∷ []

abbrev pub ranges_tests : List ℕ → List ℕ → ℕ → List Test
ranges_tests ds es room = design_tests ds ++ own_tests ds es room

unfoldable pub ranges_refusal : List ℕ → List ℕ → ℕ → ℕ
ranges_refusal ds es room = first_failing (ranges_tests ds es room)

-- ---- the new design
-- the states of a side, one behind the other
unfoldable pub states_to : Side → List ℕ
states_to S = flatten (map state_to S)

-- the block of side i, sealed anew; behind its states it is zero
unfoldable pub ranged_block : List ℕ → List ℕ → ℕ → List ℕ
ranged_block ds es i = sealed (side_block i).kind (length (new_side ds es i)) 0 (states_to (new_side ds es i))

-- the blocks of the sides, and behind them those of formulas and rules as they were
unfoldable pub ranged_design : List ℕ → List ℕ → List ℕ
ranged_design ds es = flatten (table (held ds) (ranged_block ds es)) ++ drop (block_bytes * held ds) ds

-- ---- what the call promises: its answer a, and the lent result before and after
abbrev pub ranges_answer : List ℕ → List ℕ → ℕ → Answer (Unit {0})
ranges_answer ds es room = cond (eqb (ranges_refusal ds es room) 0) (done tt) (refused (ranges_refusal ds es room))

pub record Ranges (ds es before : List ℕ) (a : Result (Unit {0}) Refusal) (after : List ℕ) : Type 0 where
  pub answers : answered a ≡ ranges_answer ds es (length before)
  pub leaves : after ≡ left_by (ranges_refusal ds es (length before)) before (ranged_design ds es)
