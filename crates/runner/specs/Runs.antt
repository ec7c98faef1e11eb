-- Specification, "The tick": a run over the bytes of a converter, in the terms of the model, which says what is claimed of every run.
use Rattle.std.specs.Prelude.{List, [], ◌∷◌, ℕ}
use Rattle.model.specs.Events.{Event}
use Rattle.model.specs.Sides.{Side}
use Rattle.model.specs.Runs as model
use Rattle.layout.specs.Converters.{converter}
use Rattle.refusals.specs.Answered.{Answer, done, refused}
use Rattle.runner.specs.declared.Runner.{Runner}
use Rattle.runner.specs.Ticks.{Ticked, delivered, ticked}

-- ---- calls, one after the other. The converter that they lend is part of the run's state.
pub data Call : Type 0 where
  -- the events that the three sides show
  tick_call : Event → Event → Event → Call

pub record Running : Type 0 where
  pub converter : List ℕ
  pub runner : Runner

pub record Called : Type 0 where
  pub answer : Answer (Unit {0})
  pub running : Running

unfoldable pub called : Running → Call → Called
called R (tick_call x y z) =
    let t = ticked R.converter R.runner (x ∷ y ∷ z ∷ []) in
    record { answer = t.answer; running = record { converter = R.converter; runner = t.runner } }

-- ---- in the terms of the model
abbrev pub call_of : Call → model.Call
call_of (tick_call x y z) = model.tick_call (x ∷ y ∷ z ∷ [])

abbrev pub answer_of : Answer (Unit {0}) → model.Answer
answer_of (done x) = model.done
answer_of (refused k) = model.refused k

abbrev pub runner_of : Runner → model.Runner
runner_of r = record { at = r.«record»; delivered = delivered r }

abbrev pub ticked_of : Ticked → model.Ticked
ticked_of t = record { answer = answer_of t.answer; runner = runner_of t.runner }

abbrev pub running_of : Running → model.Running
running_of R = record { converter = converter R.converter; runner = runner_of R.runner }

abbrev pub called_of : Called → model.Called
called_of k = record { answer = answer_of k.answer; running = running_of k.running }

-- ---- what is claimed
-- Of every run over the bytes: one claim about the list of calls. `ss` are the plain sides' states before the first call.
abbrev pub RunRight : List Side → Running → List ℕ → List Call → Type 0
RunRight Ss R ss [] = model.InStep (running_of R) ss
RunRight Ss R ss (c ∷ cs) =
    let k = called_of (called R c) in
    model.InStep (running_of R) ss
    × model.CallRight Ss ss (running_of R) (call_of c) k.answer k.running
    × RunRight Ss (called R c).running (model.plain Ss ss (call_of c) k.answer k.running.runner.delivered) cs
