-- The resting side behind other sides: the states that are named, the joint moves, the kinds and the labels are those of the other sides, with a zero added.
use mathlib.Core.Path.{◌≡◌, refl, sym, ap}
use mathlib.Core.Logic.{◌↔◌}
use mathlib.Core.List.Memᴰ.{eq_of_singleton as in_one}
use mathlib.Core.List.Memᴰ.{head as here}
use mathlib.Core.List.{List, [], ◌∷◌, ◌++◌, Memᴰ as In, append_cancel_right, map-append}
use Prim.Native.Nat.{ℕ, zero, suc}
use native.Mathlib.Omega.{arith}
use lib.ListN.{get_or}
use Rattle.model.specs.Events.{Event, tick, dual, duals, shown, shows}
use Rattle.model.specs.Sides.{Move, Side, state, Kind, input, any_sent, kind}
use Rattle.model.specs.Joined.{Names, zeros, kinds_of, JointMove, label_words, own_label, labelled}
use Rattle.model.specs.Resting.{resting, with_resting, with_zero, with_tick}
use Rattle.model.proofs.Plain.{Moves, nil, cons, side_by_side}

-- ---- the start, and the states that are named
pub zeros_rested : (Ss : List Side) → zeros (with_resting Ss) ≡ with_zero (zeros Ss)
zeros_rested [] = refl
zeros_rested (S ∷ Ss) = simp (zeros_rested Ss)

no_more : (ss : List ℕ) → Names [] (with_zero ss) → ⊥
no_more [] h = h
no_more (s ∷ ss) h = h

no_fewer : (Ss : List Side) → Names (with_resting Ss) [] → ⊥
no_fewer [] h = h
no_fewer (S ∷ Ss) h = h

pub names_rested : (Ss : List Side) (ss : List ℕ) → Names Ss ss ↔ Names (with_resting Ss) (with_zero ss)
names_rested [] [] = ((λ h. (omega arith, tt)), (λ h. tt))
names_rested (S ∷ Ss) (s ∷ ss) = let r = names_rested Ss ss in ((λ h. (h.0, r.0 h.1)), (λ h. (h.0, r.1 h.1)))
names_rested [] (s ∷ ss) = ((λ h. absurd h), (λ h. no_more ss h.1))
names_rested (S ∷ Ss) [] = ((λ h. absurd h), (λ h. no_fewer Ss h.1))

-- ---- joint moves
-- a joint move of the sides, with the tick of the resting one
ticking : {Ss : List Side} {ss : List ℕ} {es : List Event} {ts : List ℕ} → Moves Ss ss es ts → JointMove (with_resting Ss) (with_zero ss) (with_tick es) (with_zero ts)
ticking nil = (here refl, tt)
ticking (cons i r) = (i, ticking r)

pub joint_rested : (Ss : List Side) (ss : List ℕ) (es : List Event) (ts : List ℕ) → JointMove Ss ss es ts
    → JointMove (with_resting Ss) (with_zero ss) (with_tick es) (with_zero ts)
joint_rested Ss ss es ts a = ticking (side_by_side Ss ss es ts a)

-- the zeros taken off again
pub zero_off : (ss ts : List ℕ) → with_zero ss ≡ with_zero ts → ss ≡ ts
zero_off ss ts e = append_cancel_right ss ts (0 ∷ []) e

pub tick_off : (es fs : List Event) → with_tick es ≡ with_tick fs → es ≡ fs
tick_off es fs e = append_cancel_right es fs (tick ∷ []) e

-- there are no other joint moves: each is one of the sides, with the tick of the resting one
pub record RestedMove (Ss : List Side) (ss : List ℕ) (es : List Event) (ts : List ℕ) : Type 0 where
  pub names : List ℕ
  pub events : List Event
  pub targets : List ℕ
  pub move : JointMove Ss names events targets
  pub names_are : ss ≡ with_zero names
  pub events_are : es ≡ with_tick events
  pub targets_are : ts ≡ with_zero targets

-- the resting side's one move
at_rest : (s : ℕ) (m : Move) → In m (state resting s).moves → (s ≡ 0) × (m.event ≡ tick) × (m.target ≡ 0)
at_rest zero m i = let e = in_one i in (refl, ap (λ (w : Move). w.event) e, ap (λ (w : Move). w.target) e)
at_rest (suc s) m i = elim i [ ]

of_ticking : (Ss : List Side) {ss : List ℕ} {es : List Event} {ts : List ℕ} → Moves (with_resting Ss) ss es ts → RestedMove Ss ss es ts
of_ticking [] (cons {s = s} {e = e} {t = t} i nil) =
    let r = at_rest s (record { event = e; target = t }) i in
    record { names = []; events = []; targets = []; move = tt; names_are = cc; events_are = cc; targets_are = cc }
of_ticking (S ∷ Ss) (cons {s = s} {e = e} {t = t} i r) =
    let w = of_ticking Ss r in
    record { names = s ∷ w.names; events = e ∷ w.events; targets = t ∷ w.targets; move = (i, w.move); names_are = cc; events_are = cc; targets_are = cc }

pub of_joint_rested : (Ss : List Side) (ss : List ℕ) (es : List Event) (ts : List ℕ) → JointMove (with_resting Ss) ss es ts → RestedMove Ss ss es ts
of_joint_rested Ss ss es ts a = of_ticking Ss (side_by_side (with_resting Ss) ss es ts a)

pub rested_joint : (Ss : List Side) (ss : List ℕ) (es : List Event) (ts : List ℕ) → JointMove (with_resting Ss) (with_zero ss) (with_tick es) (with_zero ts)
    → JointMove Ss ss es ts
rested_joint Ss ss es ts a =
    let w = of_joint_rested Ss (with_zero ss) (with_tick es) (with_zero ts) a in
    let names : w.names ≡ ss = zero_off w.names ss (sym w.names_are) in
    let events : w.events ≡ es = tick_off w.events es (sym w.events_are) in
    let targets : w.targets ≡ ts = zero_off w.targets ts (sym w.targets_are) in
    rw (names, events, targets) at w.move

-- So P is true of the events of each joint move of the sides exactly where Q, which says the same with a tick added, is true of each with the resting side.
pub every_joint_rested : (Ss : List Side) (ss : List ℕ) (P Q : List Event → Type 0) → ((es : List Event) → P es ↔ Q (with_tick es))
    → ((es : List Event) (ts : List ℕ) → JointMove Ss ss es ts → P es) ↔ ((es : List Event) (ts : List ℕ) → JointMove (with_resting Ss) (with_zero ss) es ts → Q es)
every_joint_rested Ss ss P Q same = (
  (λ f es ts a.
      let w = of_joint_rested Ss (with_zero ss) es ts a in
      let names : w.names ≡ ss = zero_off w.names ss (sym w.names_are) in
      rw w.events_are ((same w.events).0 (f w.events w.targets (rw names at w.move)))),
  (λ f es ts a. (same es).1 (f (with_tick es) (with_zero ts) (joint_rested Ss ss es ts a))),
)

-- ---- what is carried and shown
pub duals_rested : (es : List Event) → duals (with_tick es) ≡ with_tick (duals es)
duals_rested es = map-append dual es (tick ∷ [])

pub shows_rested : (es : List Event) → shows (with_tick es) ≡ with_tick (shows es)
shows_rested es = map-append shown es (tick ∷ [])

-- ---- kinds: the resting state is input
pub kinds_rested : (Ss : List Side) (ss : List ℕ) → Names Ss ss → kinds_of (with_resting Ss) (with_zero ss) ≡ kinds_of Ss ss ++ (input ∷ [])
unfolding kind any_sent
kinds_rested [] [] h = refl
kinds_rested (S ∷ Ss) (s ∷ ss) h = ap (λ (ks : List Kind). kind (state S s) ∷ ks) (kinds_rested Ss ss h.1)
kinds_rested [] (s ∷ ss) h = absurd h
kinds_rested (S ∷ Ss) [] h = absurd h

-- ---- labels: it has none
words_rested : (Ss : List Side) (ss : List ℕ) → Names Ss ss → label_words (with_resting Ss) (with_zero ss) ≡ label_words Ss ss ++ (0 ∷ [])
unfolding label_words
words_rested [] [] h = refl
words_rested (S ∷ Ss) (s ∷ ss) h = ap (λ (ws : List ℕ). (state S s).label ∷ ws) (words_rested Ss ss h.1)
words_rested [] (s ∷ ss) h = absurd h
words_rested (S ∷ Ss) [] h = absurd h

-- a word 0 behind others is what stands past the end anyway
zero_behind : (ws : List ℕ) (i : ℕ) → get_or (ws ++ (0 ∷ [])) i 0 ≡ get_or ws i 0
zero_behind [] zero = refl
zero_behind [] (suc i) = refl
zero_behind (w ∷ ws) zero = refl
zero_behind (w ∷ ws) (suc i) = zero_behind ws i

-- so a proposition holds where it held, whichever it is
pub labelled_rested : (Ss : List Side) (ss : List ℕ) (p : ℕ) → Names Ss ss → labelled (with_resting Ss) (with_zero ss) p ≡ labelled Ss ss p
unfolding labelled own_label
labelled_rested Ss ss p h = simp (words_rested Ss ss h, zero_behind)
