-- Specification, "The tick": one tick of a converter, the plain sides beside it, and what demand 3 says of every run. Shown and delivered events
-- are lists with one event a side.
use Rattle.std.specs.Prelude.{◌≡◌, Bool, true, false, not, ◌&&◌, cond, ◌⊎◌, ◌↔◌, ℕ, zero, suc, ◌<◌, T, length, pos, negsuc}
use mathlib.Core.List.{List, [], ◌∷◌, Memᴰ as In}
use Rattle.std.proofs.Math.Option.{Option, none, some}
use Rattle.model.specs.Events.{Event, tick, sent, same_event}
use Rattle.model.specs.Sides.{Move, State, Side, state}
use Rattle.model.specs.Converters.{Edge, Converter, node, side_events}

-- ---- one tick
-- A runner: the number of its converter state (the specification says record) and the events last delivered.
pub record Runner : Type 0 where
  pub at : ℕ
  pub delivered : List Event

-- "done", or the number of a refusal
pub data Answer : Type 0 where
  done : Answer
  refused : ℕ → Answer

-- A shown event fits the side event that it equals, and 0 fits any event not sent. A shown event above 0 fits none. The specification's 17 for a
-- shown event below -63 is included: no event in range equals it, so none fits.
unfoldable pub fits : Event → Event → Bool
fits (pos zero) e = not (sent e)
fits (pos (suc n)) e = false
fits (negsuc n) e = same_event (negsuc n) e

unfoldable pub all_fit : List Event → List Event → Bool
all_fit [] [] = true
all_fit (x ∷ xs) (e ∷ es) = fits x e && all_fit xs es
all_fit [] (e ∷ es) = false
all_fit (x ∷ xs) [] = false

-- the first transition that fits, in order
unfoldable pub first_fit : List Event → List Edge → Option Edge
first_fit xs [] = none
first_fit xs (e ∷ es) = cond (all_fit xs (side_events e)) (some e) (first_fit xs es)

pub record Ticked : Type 0 where
  pub answer : Answer
  pub runner : Runner

unfoldable pub taken : Runner → Option Edge → Ticked
taken r none = record { answer = refused 17; runner = r }
taken r (some e) = record { answer = done; runner = record { at = e.next; delivered = side_events e } }

-- Past the end of the converter there is no transition, so none fits.
unfoldable pub ticked : Converter → Runner → List Event → Ticked
ticked C r xs = taken r (first_fit xs (node C r.at).edges)

-- ---- a run: a list of calls. The converter in use is part of its state.
pub data Call : Type 0 where
  -- the events that the sides show
  tick_call : List Event → Call

pub record Running : Type 0 where
  pub converter : Converter
  pub runner : Runner

pub record Called : Type 0 where
  pub answer : Answer
  pub running : Running

unfoldable pub called : Running → Call → Called
called R (tick_call xs) =
    let t = ticked R.converter R.runner xs in
    record { answer = t.answer; running = record { converter = R.converter; runner = t.runner } }

-- ---- the plain sides: one state number a side
-- the target that a state has for an event; where it has none (which demand 3 shuts out) the side stays
unfoldable pub target_for : ℕ → List Move → Event → ℕ
target_for s [] e = s
target_for s (m ∷ ms) e = cond (same_event m.event e) m.target (target_for s ms e)

unfoldable pub moved : List Side → List ℕ → List Event → List ℕ
moved [] [] es = []
moved [] (s ∷ ss) es = s ∷ ss
moved (S ∷ Ss) [] es = []
moved (S ∷ Ss) (s ∷ ss) [] = s ∷ ss
moved (S ∷ Ss) (s ∷ ss) (e ∷ es) = target_for s (state S s).moves e ∷ moved Ss ss es

-- After a tick that is "done" each side moves by its delivered event; after a refusal every side stays.
unfoldable pub plain : List Side → List ℕ → Call → Answer → List Event → List ℕ
plain Ss ss (tick_call xs) done es = moved Ss ss es
plain Ss ss (tick_call xs) (refused k) es = ss

-- What a side's table allows in a state, and nothing else:
pub data Allows (q : State) (x : Event) : Type 0 where
  -- an event that its state sends
  sends : T (sent x) → (t : ℕ) → In (record { event = x; target = t }) q.moves → Allows q x
  -- 0 where its state has an event that isn't sent
  waits : x ≡ tick → (m : Move) → In m q.moves → T (not (sent m.event)) → Allows q x

-- each side shows what its table allows in its state
abbrev pub AllAllow : List Side → List ℕ → List Event → Type 0
AllAllow [] [] [] = Unit {0}
AllAllow (S ∷ Ss) (s ∷ ss) (x ∷ xs) = Allows (state S s) x × AllAllow Ss ss xs
AllAllow [] (s ∷ ss) xs = ⊥
AllAllow [] [] (x ∷ xs) = ⊥
AllAllow (S ∷ Ss) [] xs = ⊥
AllAllow (S ∷ Ss) (s ∷ ss) [] = ⊥

-- A delivered event stands in the state in which its side was; it is the shown event where that isn't 0, and no sent event where 0
-- was shown.
pub record DeliveredTo (q : State) (x e : Event) : Type 0 where
  pub stands : (t : ℕ) × In (record { event = e; target = t }) q.moves
  pub as_shown : (x ≡ tick → ⊥) → e ≡ x
  pub not_sent : x ≡ tick → T (not (sent e))

abbrev pub AllDelivered : List Side → List ℕ → List Event → List Event → Type 0
AllDelivered [] [] [] [] = Unit {0}
AllDelivered (S ∷ Ss) (s ∷ ss) (x ∷ xs) (e ∷ es) = DeliveredTo (state S s) x e × AllDelivered Ss ss xs es
AllDelivered [] (s ∷ ss) xs es = ⊥
AllDelivered [] [] (x ∷ xs) es = ⊥
AllDelivered [] [] [] (e ∷ es) = ⊥
AllDelivered (S ∷ Ss) [] xs es = ⊥
AllDelivered (S ∷ Ss) (s ∷ ss) [] es = ⊥
AllDelivered (S ∷ Ss) (s ∷ ss) (x ∷ xs) [] = ⊥

-- ---- what is claimed
-- the runner's converter state is there and names the states of the plain sides
pub record InStep (R : Running) (ss : List ℕ) : Type 0 where
  pub there : R.runner.at < length R.converter
  pub names : (node R.converter R.runner.at).names ≡ ss

-- of one tick under which the sides, in the states ss, showed xs; it was answered A and left the run in the state R'
pub record TickRight (Ss : List Side) (ss : List ℕ) (R : Running) (xs : List Event) (A : Answer) (R' : Running) : Type 0 where
  -- "done" exactly when each side shows what its table allows
  pub done_exactly : (A ≡ done) ↔ AllAllow Ss ss xs
  -- and otherwise 17 with the runner unchanged
  pub otherwise_17 : (A ≡ done) ⊎ ((A ≡ refused 17) × (R' ≡ R))
  pub delivers : A ≡ done → AllDelivered Ss ss xs R'.runner.delivered

-- of one call
abbrev pub CallRight : List Side → List ℕ → Running → Call → Answer → Running → Type 0
CallRight Ss ss R (tick_call xs) A R' = TickRight Ss ss R xs A R'

-- Of every run: one claim about the list of calls. `ss` are the plain sides' states before the first call.
abbrev pub RunRight : List Side → Running → List ℕ → List Call → Type 0
RunRight Ss R ss [] = InStep R ss
RunRight Ss R ss (c ∷ cs) =
    InStep R ss
    × CallRight Ss ss R c (called R c).answer (called R c).running
    × RunRight Ss (called R c).running (plain Ss ss c (called R c).answer (called R c).running.runner.delivered) cs
