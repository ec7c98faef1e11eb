-- Specification, "The tick": one tick over the bytes of a converter. What is shown and what is delivered are lists with one event a side.
use Rattle.std.specs.Prelude.{◌≡◌, Bool, cond, List, [], ◌∷◌, ℕ, suc, ◌*◌, eqb, leb, ltb, pos, negsuc, get_or, Result, Ok, Err}
use Rattle.std.proofs.Math.Option.{Option, none, some}
use Rattle.model.specs.Events.{Event, tick}
use Rattle.model.specs.Converters.{Edge, node, side_events}
use Rattle.model.specs.Judged.{all}
use Rattle.model.specs.Runs.{first_fit}
use Rattle.layout.specs.Sizes.{last_event, record_bytes}
use Rattle.layout.specs.Converters.{records, converter}
use Rattle.refusals.specs.declared.refusal.Refusal.{Refusal}
use Rattle.refusals.specs.Answered as by_number
use Rattle.refusals.specs.Answered.{Answer, done, number, answered}
use Rattle.refusals.specs.Refusals.{Test, first_failing, size_right, record_right}
use Rattle.runner.specs.declared.Runner.{Runner}

-- the events last delivered
abbrev pub delivered : Runner → List Event
delivered r = r.first ∷ r.second ∷ r.third ∷ []

-- the answer, and the runner as the tick leaves it
pub record Ticked : Type 0 where
  pub answer : Answer (Unit {0})
  pub runner : Runner

-- ---- refusals
-- a shown event: not above 0 and not below -63 (`negsuc n` is -(n + 1))
unfoldable pub can_show : Event → Bool
can_show (pos n) = eqb n 0
can_show (negsuc n) = leb (suc n) last_event

-- Before a transition is looked for in record c, where the sides show xs. Only that record is tested for 11.
abbrev pub tick_tests : List ℕ → ℕ → List Event → List Test
tick_tests cs c xs =
    record { number = 10; passes = size_right cs }
    ∷ record { number = 17; passes = ltb c (records cs) }
    ∷ record { number = 11; passes = record_right cs (records cs) (record_bytes * c) }
    ∷ record { number = 17; passes = all can_show xs }
    ∷ []

unfoldable pub tick_refusal : List ℕ → ℕ → List Event → ℕ
tick_refusal cs c xs = first_failing (tick_tests cs c xs)

-- a refusal changes nothing
abbrev pub refused : Runner → ℕ → Ticked
refused r k = record { answer = by_number.refused k; runner = r }

-- ---- the transition that is taken
-- its next record and its side events become the runner's values
abbrev pub moved_by : Edge → Runner
moved_by e = record { «record» = e.next; first = get_or (side_events e) 0 tick; second = get_or (side_events e) 1 tick; third = get_or (side_events e) 2 tick }

-- 17 where none fits
unfoldable pub taken : Runner → Option Edge → Ticked
taken r none = refused r 17
taken r (some e) = record { answer = done tt; runner = moved_by e }

unfoldable pub ticked : List ℕ → Runner → List Event → Ticked
ticked cs r xs =
    cond (eqb (tick_refusal cs r.«record» xs) 0)
    (taken r (first_fit xs (node (converter cs) r.«record»).edges))
    (refused r (tick_refusal cs r.«record» xs))

-- a tick from runner r by what it answers: the next runner, or a refusal
abbrev pub ticked_as : Runner → Result Runner Refusal → Ticked
ticked_as r (Ok r') = record { answer = done tt; runner = r' }
ticked_as r (Err e) = refused r (number e)

-- what a tick promises: its answer a, and the runner r' that it leaves
pub record Ticks (cs : List ℕ) (r : Runner) (xs : List Event) (a : Result (Unit {0}) Refusal) (r' : Runner) : Type 0 where
  pub answers : answered a ≡ (ticked cs r xs).answer
  pub leaves : r' ≡ (ticked cs r xs).runner
