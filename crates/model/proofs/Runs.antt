-- Theorem 3: of every run of a matched converter what the specification says under "The tick" is true. One tick is right wherever the runner names the states
-- of the plain sides, and it leaves the runner so; the list of calls follows by induction.
use mathlib.Core.Path.{◌≡◌, refl, sym, ap, subst, subst⁻¹, ◌∙◌}
use mathlib.Core.Logic.{◌⊎◌, inl, inr, ⊎_elim}
use mathlib.Core.List.{List, [], ◌∷◌}
use mathlib.Core.Option.{Option}
use Prim.Native.Nat.{ℕ, ◌<◌}
use native.Mathlib.Omega.{arith}
use lib.ListN.{length}
use Rattle.model.specs.Events.{Event, shows}
use Rattle.model.specs.Sides.{Side}
use Rattle.model.specs.Joined.{zeros}
use Rattle.model.specs.Converters.{Edge, Converter, no_edge, node, edge, side_events, Matched}
use Rattle.model.specs.Designs.{Design, WellFormed}
use Rattle.model.specs.Runs.{Runner, done, refused, Ticked, taken, ticked, Call, tick_call, Running, called, moved, plain, AllAllow, AllDelivered, InStep, CallRight, RunRight}
use Rattle.model.proofs.Lists.{get_or_in, index_in}
use Rattle.model.proofs.Joint.{AllRegular, all_regular}
use Rattle.model.proofs.Alone.{answers}
use Rattle.model.proofs.Fits.{Found, found, none_fits, find}
use Rattle.model.proofs.Plain.{side_by_side, allowed_joint, joint_allowed, joint_delivered, joint_moved}

-- ---- one tick
-- of a tick that was done: the sides, in the states ss, showed xs
pub record Done (Ss : List Side) (C : Converter) (ss : List ℕ) (xs : List Event) (t : Ticked) : Type 0 where
  pub answered : t.answer ≡ done
  pub allowed : AllAllow Ss ss xs
  pub delivers : AllDelivered Ss ss xs t.runner.delivered
  -- the next converter state is there and names the states to which the delivered events lead
  pub there : t.runner.at < length C
  pub names : (node C t.runner.at).names ≡ moved Ss ss t.runner.delivered

-- of a tick that was refused, from the runner r
pub record Refused (Ss : List Side) (r : Runner) (ss : List ℕ) (xs : List Event) (t : Ticked) : Type 0 where
  pub unmoved : t ≡ record { answer = refused 17; runner = r }
  pub not_allowed : AllAllow Ss ss xs → ⊥

module _ (Ss : List Side) (reg : AllRegular Ss) (C : Converter) (m : Matched Ss C) where
  -- a tick, by the transition that is found
  tick_at : (r : Runner) → r.at < length C → (xs : List Event) → Found xs (node C r.at).edges
      → Done Ss C (node C r.at).names xs (ticked C r xs) ⊎ Refused Ss r (node C r.at).names xs (ticked C r xs)
  unfolding ticked taken
  tick_at r h xs (found k lt p g first) =
      let n = node C r.at in
      let e = edge n k in
      let ob = m.each r.at h in
      let w = ob.follows e (get_or_in n.edges k no_edge lt) in
      let j = side_by_side Ss n.names (side_events e) (node C e.next).names w.1 in
      inl (subst⁻¹ (λ (o : Option Edge). Done Ss C n.names xs (taken r o)) p (record {
        answered = refl;
        allowed = subst (AllAllow Ss n.names) g (joint_allowed j);
        delivers = subst (λ (ys : List Event). AllDelivered Ss n.names ys (side_events e)) g (joint_delivered j);
        there = w.0;
        names = sym (joint_moved reg ob.has_states j);
      }))
  tick_at r h xs (none_fits p none_shows) =
      let n = node C r.at in
      inr (subst⁻¹ (λ (o : Option Edge). Refused Ss r n.names xs (taken r o)) p (record {
        unmoved = refl;
        not_allowed = λ a.
            let j = allowed_joint Ss n.names xs a in
            let w = answers Ss reg C n (m.each r.at h) j.0 j.1 j.2 in
            let k = index_in no_edge w.there in
            none_shows k.0 k.1 (ap (λ (e : Edge). shows (side_events e)) k.2 ∙ w.showing ∙ j.3);
      }))

  -- a tick from a converter state that is there and names the states ss
  pub tick_right : (r : Runner) (ss : List ℕ) → r.at < length C → (node C r.at).names ≡ ss → (xs : List Event) → Done Ss C ss xs (ticked C r xs) ⊎ Refused Ss r ss xs (ticked C r xs)
  tick_right r ss h e xs = subst (λ (ys : List ℕ). Done Ss C ys xs (ticked C r xs) ⊎ Refused Ss r ys xs (ticked C r xs)) e (tick_at r h xs (find xs (node C r.at).edges))

  -- 17 never comes where each side shows what its table allows
  pub tick_done : (r : Runner) (ss : List ℕ) → r.at < length C → (node C r.at).names ≡ ss → (xs : List Event) → AllAllow Ss ss xs → Done Ss C ss xs (ticked C r xs)
  tick_done r ss h e xs a =
      ⊎_elim (λ (d : Done Ss C ss xs (ticked C r xs)). d) (λ (w : Refused Ss r ss xs (ticked C r xs)). absurd (w.not_allowed a)) (tick_right r ss h e xs)

-- ---- every run
-- a call, from the tick that it makes
call_right : (Ss : List Side) (R : Running) (ss : List ℕ) (xs : List Event) (t : Ticked) → Done Ss R.converter ss xs t ⊎ Refused Ss R.runner ss xs t
    → CallRight Ss ss R (tick_call xs) t.answer (record { converter = R.converter; runner = t.runner })
call_right Ss R ss xs t (inl d) = record { done_exactly = ((λ a. d.allowed), (λ a. d.answered)); otherwise_17 = inl d.answered; delivers = λ a. d.delivers }
call_right Ss R ss xs t (inr w) =
    record {
      done_exactly = ((λ a. absurd (never a)), (λ a. absurd (w.not_allowed a)));
      otherwise_17 = inr (ap (λ (u : Ticked). u.answer) w.unmoved, ap (λ (u : Ticked). record { converter = R.converter; runner = u.runner }) w.unmoved);
      delivers = λ a. absurd (never a);
    }
  where
    never : t.answer ≡ done → ⊥
    never a = let b : t.answer ≡ refused 17 = ap (λ (u : Ticked). u.answer) w.unmoved in let z : ◌≡◌ {A = ℕ} 0 1 = cc in omega arith

-- the runner that it leaves names the states of the plain sides
in_step : (Ss : List Side) (R : Running) (ss : List ℕ) (xs : List Event) (t : Ticked) → InStep R ss → Done Ss R.converter ss xs t ⊎ Refused Ss R.runner ss xs t
    → InStep (record { converter = R.converter; runner = t.runner }) (plain Ss ss (tick_call xs) t.answer t.runner.delivered)
unfolding plain
in_step Ss R ss xs t h (inl d) = rw d.answered (record { there = d.there; names = d.names })
in_step Ss R ss xs t h (inr w) = rw w.unmoved h

-- from any converter state that names the states of the plain sides
pub every_run : (Ss : List Side) → AllRegular Ss → (R : Running) → Matched Ss R.converter → (ss : List ℕ) → InStep R ss → (cs : List Call) → RunRight Ss R ss cs
unfolding called
every_run Ss reg R m ss h [] = h
every_run Ss reg R m ss h (tick_call xs ∷ cs) =
    let t = ticked R.converter R.runner xs in
    let w = tick_right Ss reg R.converter m R.runner ss h.there h.names xs in
    let R' : Running = record { converter = R.converter; runner = t.runner } in
    (h, call_right Ss R ss xs t w, every_run Ss reg R' m (plain Ss ss (tick_call xs) t.answer t.runner.delivered) (in_step Ss R ss xs t h w) cs)

-- from the start: converter state 0, any delivered events, and every plain side in state 0
pub every_run_from_start : (Ss : List Side) → AllRegular Ss → (C : Converter) → Matched Ss C → (es : List Event) (cs : List Call)
    → RunRight Ss (record { converter = C; runner = record { at = 0; delivered = es } }) (zeros Ss) cs
every_run_from_start Ss reg C m es cs =
    every_run Ss reg (record { converter = C; runner = record { at = 0; delivered = es } }) m (zeros Ss) (record { there = m.some_node; names = m.starts }) cs

-- Theorem 3, for a design
pub runs_right : (D : Design) → WellFormed D → (C : Converter) → Matched D.sides C → (es : List Event) (cs : List Call)
    → RunRight D.sides (record { converter = C; runner = record { at = 0; delivered = es } }) (zeros D.sides) cs
runs_right D wf C m es cs = every_run_from_start D.sides (all_regular D.sides wf.each_side) C m es cs
