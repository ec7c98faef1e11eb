-- One tick of the sides: their tables allow exactly what some joint move shows, and by its events the plain sides move where it leads.
use mathlib.Core.Path.{◌≡◌, refl, sym, ap, ap₂, subst, ◌∙◌}
use mathlib.Core.Bool.{cond}
use mathlib.Core.Logic.{⊎_elim}
use mathlib.Core.List.Memᴰ.{cases_cons as in-cases}
use mathlib.Core.List.Memᴰ.{head as here}
use mathlib.Core.List.Memᴰ.{tail as there}
use mathlib.Core.List.{List, [], ◌∷◌, Memᴰ as In}
use Prim.Native.Nat.{ℕ}
use native.Mathlib.Omega.{arith}
use lib.Dec.{T}
use lib.IntN.{pos, negsuc}
use Rattle.model.specs.Events.{Event, shown, shows, same_event}
use Rattle.model.specs.Sides.{Move, State, Side, state}
use Rattle.model.specs.Joined.{Names, JointMove}
use Rattle.model.specs.Runs.{target_for, moved, Allows, sends, waits, AllAllow, DeliveredTo, AllDelivered}
use Rattle.model.proofs.Bools.{T-dec, T_true, T_false}
use Rattle.model.proofs.StateKinds.{shown_sent, shown_unsent}
use Rattle.model.proofs.Joint.{AllRegular}
use Rattle.model.proofs.SameEvent.{same_event_eq, same_event_refl}

-- ---- one side
-- an allowed event is what some move shows
allowed_move : (q : State) (x : Event) → Allows q x → (e : Event) × (t : ℕ) × In (record { event = e; target = t }) q.moves × (shown e ≡ x)
allowed_move q x (sends h t i) = (x, t, i, shown_sent x h)
allowed_move q x (waits e m i h) = (m.event, m.target, i, shown_unsent m.event h ∙ sym e)

-- what a move shows is allowed
move_allowed : (q : State) (e : Event) (t : ℕ) → In (record { event = e; target = t }) q.moves → Allows q (shown e)
move_allowed q (pos n) t i = waits refl (record { event = pos n; target = t }) i tt
move_allowed q (negsuc n) t i = sends tt t i

-- the event of a move, delivered to a side that shows what the move shows
move_delivered : (q : State) (e : Event) (t : ℕ) → In (record { event = e; target = t }) q.moves → DeliveredTo q (shown e) e
move_delivered q (pos n) t i = record { stands = (t, i); as_shown = λ h. absurd (h refl); not_sent = λ h. tt }
move_delivered q (negsuc n) t i = record { stands = (t, i); as_shown = λ h. refl; not_sent = λ h. let z : ◌≡◌ {A = ℕ} 0 1 = cc in absurd (omega arith) }

-- the first move with an event leads where every move with that event does
target_of : (s : ℕ) (l : List Move) (e : Event) (t : ℕ) → In (record { event = e; target = t }) l → ((m : Move) → In m l → m.event ≡ e → m.target ≡ t) → target_for s l e ≡ t
unfolding target_for
target_of s [] e t i h = elim i [ ]
target_of s (m ∷ ms) e t i h = by (T-dec (same_event m.event e)) (target_of s ms e t)
  where
    by : Dec (T (same_event m.event e)) → (In (record { event = e; target = t }) ms → ((w : Move) → In w ms → w.event ≡ e → w.target ≡ t) → target_for s ms e ≡ t)
        → cond (same_event m.event e) m.target (target_for s ms e) ≡ t
    by (yes y) ih = rw (T_true (same_event m.event e) y) (h m (here refl) (same_event_eq m.event e y))
    by (no n) ih =
        rw (T_false (same_event m.event e) n)
        (⊎_elim
        (λ (p : record { event = e; target = t } ≡ m). absurd (n (subst (λ (w : Move). T (same_event w.event e)) p (same_event_refl e))))
        (λ (j : In (record { event = e; target = t }) ms). ih j (λ w k. h w (there k)))
        (in-cases i))

-- ---- all sides
-- a joint move, side by side: without `JointMove`'s cases of unequal length
pub data Moves : List Side → List ℕ → List Event → List ℕ → Type 0 where
  nil : Moves [] [] [] []
  cons : {S : Side} {Ss : List Side} {s : ℕ} {ss : List ℕ} {e : Event} {es : List Event} {t : ℕ} {ts : List ℕ}
      → In (record { event = e; target = t }) (state S s).moves → Moves Ss ss es ts → Moves (S ∷ Ss) (s ∷ ss) (e ∷ es) (t ∷ ts)

pub side_by_side : (Ss : List Side) (ss : List ℕ) (es : List Event) (ts : List ℕ) → JointMove Ss ss es ts → Moves Ss ss es ts
side_by_side [] [] [] [] a = nil
side_by_side (S ∷ Ss) (s ∷ ss) (e ∷ es) (t ∷ ts) a = cons a.0 (side_by_side Ss ss es ts a.1)
side_by_side [] (s ∷ ss) es ts a = absurd a
side_by_side [] [] (e ∷ es) ts a = absurd a
side_by_side [] [] [] (t ∷ ts) a = absurd a
side_by_side (S ∷ Ss) [] es ts a = absurd a
side_by_side (S ∷ Ss) (s ∷ ss) [] ts a = absurd a
side_by_side (S ∷ Ss) (s ∷ ss) (e ∷ es) [] a = absurd a

-- what the tables allow is what some joint move shows
pub allowed_joint : (Ss : List Side) (ss : List ℕ) (xs : List Event) → AllAllow Ss ss xs → (es : List Event) × (ts : List ℕ) × JointMove Ss ss es ts × (shows es ≡ xs)
allowed_joint [] [] [] a = ([], [], tt, refl)
allowed_joint (S ∷ Ss) (s ∷ ss) (x ∷ xs) a =
    let m = allowed_move (state S s) x a.0 in
    let r = allowed_joint Ss ss xs a.1 in
    (m.0 ∷ r.0, m.1 ∷ r.1, (m.2, r.2), ap₂ {C = List Event} (λ y ys. y ∷ ys) m.3 r.3)
allowed_joint [] (s ∷ ss) xs a = absurd a
allowed_joint [] [] (x ∷ xs) a = absurd a
allowed_joint (S ∷ Ss) [] xs a = absurd a
allowed_joint (S ∷ Ss) (s ∷ ss) [] a = absurd a

-- and what a joint move shows, the tables allow
pub joint_allowed : {Ss : List Side} {ss : List ℕ} {es : List Event} {ts : List ℕ} → Moves Ss ss es ts → AllAllow Ss ss (shows es)
joint_allowed nil = tt
joint_allowed (cons {S = S} {s = s} {e = e} {t = t} i r) = (move_allowed (state S s) e t i, joint_allowed r)

-- a joint move's events are delivered as the specification says, to sides that show what it shows
pub joint_delivered : {Ss : List Side} {ss : List ℕ} {es : List Event} {ts : List ℕ} → Moves Ss ss es ts → AllDelivered Ss ss (shows es) es
joint_delivered nil = tt
joint_delivered (cons {S = S} {s = s} {e = e} {t = t} i r) = (move_delivered (state S s) e t i, joint_delivered r)

-- and the plain sides move by them to its targets
pub joint_moved : {Ss : List Side} {ss : List ℕ} {es : List Event} {ts : List ℕ} → AllRegular Ss → Names Ss ss → Moves Ss ss es ts → moved Ss ss es ≡ ts
unfolding moved
joint_moved reg hs nil = refl
joint_moved reg hs (cons {S = S} {s = s} {e = e} {t = t} i r) =
    ap₂ {C = List ℕ} (λ x y. x ∷ y)
    (target_of s (state S s).moves e t i (λ m j p. ap (λ (w : Move). w.target) ((reg.0.each s hs.0).by_event m (record { event = e; target = t }) j i p)))
    (joint_moved reg.1 hs.1 r)
