-- Theorem 3 at the bytes: of every run over the bytes of a matched converter what the specification says under "The tick" is true. Call by call the run is the
-- model's, so the model's theorem carries over.
use mathlib.Core.Path.{◌≡◌, refl, sym, ap, subst, ◌∙◌}
use mathlib.Core.List.{List, [], ◌∷◌, map}
use Prim.Native.Nat.{ℕ, ◌*◌, ◌<◌}
use native.Mathlib.Omega.{arith}
use lib.ListN.{take}
use lib.Dec.{lit<}
use Rattle.std.specs.Prelude.{Ok}
use Rattle.model.specs.Events.{Event}
use Rattle.model.specs.Sides.{Side}
use Rattle.model.specs.Joined.{zeros}
use Rattle.model.specs.Converters.{node, Matched}
use Rattle.model.specs.Runs as model
use Rattle.model.specs.Runs.{moved, AllAllow, AllDelivered, InStep}
use Rattle.model.proofs.Joint.{AllRegular, all_regular}
use Rattle.model.proofs.Runs as model_runs
use Rattle.layout.specs.Sizes.{record_bytes}
use Rattle.layout.specs.Designs.{design}
use Rattle.layout.specs.Converters.{records, converter}
use Rattle.refusals.specs.Answered.{Answer, done, refused}
use Rattle.refusals.specs.Refusals.{design_refusal, records_right, converter_refusal}
use Rattle.refusals.proofs.Accepted.{accepted, converter_length}
use Rattle.refusals.proofs.Passing.{passed}
use Rattle.refusals.proofs.WellFormed.{well_formed}
use Rattle.search.specs.Search.{Searches}
use Rattle.search.proofs.Answers.{found_in}
use Rattle.runner.specs.declared.Runner.{Runner}
use Rattle.runner.specs.Ticks.{Ticked, delivered, ticked}
use Rattle.runner.specs.Runs.{Call, tick_call, Running, called, call_of, answer_of, runner_of, ticked_of, running_of, called_of, RunRight}
use Rattle.runner.proofs.InModel.{in_model}

-- ---- a call over a converter that isn't refused is the model's call
tick_in_model : (cs : List ℕ) → converter_refusal cs ≡ 0 → (r : Runner) (xs : List Event) → ticked_of (ticked cs r xs) ≡ model.ticked (converter cs) (runner_of r) xs
unfolding converter_refusal
tick_in_model cs ok r xs =
    in_model cs r xs (passed _ (record { number = 11; passes = records_right cs } ∷ []) (lit< tt) ok).0 (λ h. (accepted cs ok).right r.«record» h)

call_in_model : (R : Running) → converter_refusal R.converter ≡ 0 → (c : Call) → called_of (called R c) ≡ model.called (running_of R) (call_of c)
unfolding called model.called
call_in_model R ok (tick_call x y z) =
    ap (λ (t : model.Ticked). record { answer = t.answer; running = record { converter = converter R.converter; runner = t.runner } }) (tick_in_model R.converter ok R.runner (x ∷ y ∷ z ∷ []))

-- it lends the converter, and changes none of it
still_lent : (R : Running) (c : Call) → (called R c).running.converter ≡ R.converter
unfolding called
still_lent R (tick_call x y z) = refl

-- ---- what the model claims of the decoded run is claimed of the run
carried : (Ss : List Side) (R : Running) → converter_refusal R.converter ≡ 0 → (ss : List ℕ) (cs : List Call) → model.RunRight Ss (running_of R) ss (map call_of cs) → RunRight Ss R ss cs
carried Ss R ok ss [] h = h
carried Ss R ok ss (c ∷ cs) h =
    let e = call_in_model R ok c in
    let k = subst (λ (k : model.Called). model.CallRight Ss ss (running_of R) (call_of c) k.answer k.running
    × model.RunRight Ss k.running (model.plain Ss ss (call_of c) k.answer k.running.runner.delivered) (map call_of cs)) (sym e) (h.1, h.2) in
    (h.0, k.0, carried Ss (called R c).running (ap converter_refusal (still_lent R c) ∙ ok) _ cs k.1)

-- ---- every run, of a design that isn't refused
module _ (d : List ℕ) (right : design_refusal d ≡ 0) where
  regular : AllRegular (design d).sides
  regular = all_regular (design d).sides (well_formed d right).each_side

  -- From any record that is there and names the states of the plain sides, over any matched converter that isn't refused.
  pub every_run : (R : Running) → converter_refusal R.converter ≡ 0 → Matched (design d).sides (converter R.converter) → (ss : List ℕ) → InStep (running_of R) ss → (calls : List Call) → RunRight (design d).sides R ss calls
  every_run R ok m ss h calls = carried (design d).sides R ok ss calls (model_runs.every_run (design d).sides regular (running_of R) m ss h (map call_of calls))

  -- From record 0 with any delivered events, and every plain side in state 0.
  pub every_run_from_start : (cs : List ℕ) → converter_refusal cs ≡ 0 → Matched (design d).sides (converter cs) → (x y z : Event) (calls : List Call)
      → RunRight (design d).sides (record { converter = cs; runner = record { «record» = 0; first = x; second = y; third = z } }) (zeros (design d).sides) calls
  every_run_from_start cs ok m x y z calls =
      every_run (record { converter = cs; runner = record { «record» = 0; first = x; second = y; third = z } }) ok m (zeros (design d).sides) (record { there = m.some_node; names = m.starts }) calls

-- The same of what a search found, by its promise alone: the first n records of the table that it leaves, where it answers n.
pub every_run_of_found : (d table work table' work' : List ℕ) (n : ℕ) → Searches d table work (Ok n) table' work' → (x y z : Event) (calls : List Call)
    → RunRight (design d).sides (record { converter = take (record_bytes * n) table'; runner = record { «record» = 0; first = x; second = y; third = z } }) (zeros (design d).sides) calls
every_run_of_found d table work table' work' n S x y z calls =
    let f = found_in d table work (Ok n) table' work' S n refl in
    every_run_from_start d f.accepted (take (record_bytes * n) table') f.right f.works.matched x y z calls

-- ---- one tick
-- of a tick that was done: the sides, in the states ss, showed xs
pub record TickDone (Ss : List Side) (cs : List ℕ) (ss : List ℕ) (xs : List Event) (t : Ticked) : Type 0 where
  pub answered : t.answer ≡ done tt
  pub delivers : AllDelivered Ss ss xs (delivered t.runner)
  -- the next record is there and names the states to which the delivered events lead
  pub there : t.runner.«record» < records cs
  pub names : (node (converter cs) t.runner.«record»).names ≡ moved Ss ss (delivered t.runner)

-- an answer that is the model's "done" is "done"
done_answer : (a : Answer (Unit {0})) → answer_of a ≡ model.done → a ≡ done tt
done_answer (done tt) e = refl
done_answer (refused k) e = let z : ◌≡◌ {A = ℕ} 0 1 = cc in absurd (omega arith)

-- Over any matched converter that isn't refused, from any record that is there and names the states of the plain sides: 17 never comes where each side shows
-- what its table allows.
pub tick_done : (d : List ℕ) → design_refusal d ≡ 0 → (cs : List ℕ) → converter_refusal cs ≡ 0 → Matched (design d).sides (converter cs) → (r : Runner) (ss : List ℕ)
    → InStep (running_of (record { converter = cs; runner = r })) ss → (xs : List Event) → AllAllow (design d).sides ss xs → TickDone (design d).sides cs ss xs (ticked cs r xs)
tick_done d right cs ok m r ss h xs a =
    let Ss = (design d).sides in
    let w = subst (model_runs.Done Ss (converter cs) ss xs) (sym (tick_in_model cs ok r xs)) (model_runs.tick_done Ss (regular d right) (converter cs) m (runner_of r) ss h.there h.names xs a) in
    let there = w.there in
    record { answered = done_answer (ticked cs r xs).answer w.answered; delivers = w.delivers; there = omega (arith, converter_length cs); names = w.names }
