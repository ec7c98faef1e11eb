-- Waits known by range: the runs of the table in which states count are the runs that the ranges allow.
use mathlib.Core.Path.{◌≡◌, refl, sym, ap, subst⁻¹, ◌∙◌}
use mathlib.Core.Bool.{true, cond}
use mathlib.Core.Logic.Iff
use mathlib.Core.Logic.{◌⊎◌, inl, inr, ⊎_elim, ◌↔◌}
use mathlib.Core.List.{List, [], ◌∷◌, Memᴰ as In}
use Prim.Native.Nat.{ℕ, zero, suc, ◌≤◌, ◌<◌, min}
use native.Mathlib.Omega.{arith}
use native.Mathlib.Nat.{zero-min}
use native.Mathlib.Decide.{ℕ_discrete}
use borrow.Author.Tests.{eq-eqb, ne_eqb}
use lib.Dec.{T, eqb, eqb→eq, leb, leb→le, le→leb}
use lib.ListN.{length}
use Rattle.model.specs.Events.{Event, tick, sent, same_event}
use Rattle.model.specs.Sides.{Move, State, Side, state, WellFormedSide}
use Rattle.model.specs.Ranges.{Range, below, Takes, Counted, entered, is_wait, led, allows, TakesUnder, last_count, count_number, counted, replaced, ranged, Fits, AllFit}
use Rattle.model.specs.Judged.{all}
use Rattle.model.proofs.Bools.{T_true, T_false, T-dec, and_both, both_and}
use Rattle.model.proofs.Lists.{in_all}
use Rattle.model.proofs.SameEvent.{same_event_eq}
use Rattle.model.proofs.StateKinds.{pair}
use Rattle.model.proofs.CountedStates.{least_last, below_min, tick_onward, send_in, tick_in, of_counted_move, in_counted, of_counted}
use Rattle.model.proofs.RangedSides.{other_state, count_state, Whole, whole, replaced_whole, each_fits, all_fit_kept}

-- ---- what is allowed
-- a range forbids nothing to a state that it doesn't name
allows_other : (r : Range) (c : Counted) (e : Event) → (r.state ≡ c.state → ⊥) → allows r c e ≡ true
unfolding allows
allows_other r c e n = rw (ne_eqb r.state c.state n)

-- and its own state what it says
allows_named : (r : Range) (c : Counted) (e : Event) → r.state ≡ c.state
    → allows r c e ≡ cond (sent e) (leb r.least c.waits) (below c.waits r.greatest)
unfolding allows
allows_named r c e n = rw (eq-eqb r.state c.state n)

-- ---- where a move leads
led_state : (c : Counted) (m : Move) → (led c m).state ≡ m.target
unfolding led
led_state c m = refl

-- a tick back is one more wait
led_waits : (c : Counted) (m : Move) → m.event ≡ tick → m.target ≡ c.state → led c m ≡ record { state = m.target; waits = suc c.waits }
unfolding led
led_waits c m e t = rw (e, eq-eqb m.target c.state t)

-- by another move a state is entered
led_entered : (c : Counted) (m : Move) → (m.event ≡ tick → m.target ≡ c.state → ⊥) → led c m ≡ entered m.target
unfolding led
led_entered c m n = rw (T_false (is_wait c.state m) no_wait)
  where
    no_wait : T (is_wait c.state m) → ⊥
    no_wait t =
        let w = and_both (same_event m.event tick) (eqb m.target c.state) t in
        n (same_event_eq m.event tick w.0) (eqb→eq m.target c.state w.1)

-- ---- with no range the runs are those of the table
under_none : (S : Side) (c : Counted) (es : List Event) (ws : List ℕ) → Takes S c.state es ws ↔ TakesUnder S [] c es ws
unfolding all led
under_none S c [] ws = ((λ t. t), (λ t. t))
under_none S c (e ∷ es) ws = (
  (λ t. (t.0, t.1, t.2, t.3, tt, t.4, (under_none S (led c t.0) es t.1).0 t.5)),
  (λ t. (t.0, t.1, t.2, t.3, t.5, (under_none S (led c t.0) es t.1).1 t.6)),
)

-- ---- one state replaced
module _ (S : Side) (r : Range) (rs : List Range) (W : Whole S) (fits : Fits S r) (others : (p : Range) → In p rs → (p.state < length S) × (p.state ≡ r.state → ⊥)) where
  -- the state that counts, and which of its counts stands for so many waits
  abbrev q : State
  q = state S r.state

  abbrev count_of : ℕ → ℕ
  count_of w = min w (last_count r)

  -- Where the side is in c, its longer table is in c': in the same state, if that isn't the one that counts; or else at its count.
  abbrev Elsewhere : Counted → Counted → Type 0
  Elsewhere c' c = (c' ≡ c) × (c.state < length S) × (r.state ≡ c.state → ⊥)

  abbrev Counts : Counted → Counted → Type 0
  Counts c' c = (r.state ≡ c.state) × (c'.state ≡ count_number r (length S) (count_of c.waits))

  abbrev Same : Counted → Counted → Type 0
  Same c' c = Elsewhere c' c ⊎ Counts c' c

  -- a state that is entered has count 0
  same_entered : (t : ℕ) → t < length S → Same (entered t) (entered t)
  same_entered t h =
      elim (ℕ_discrete r.state t) [
        | yes e ↦ inr (e, rw zero-min (sym e))
        | no n ↦ inl (refl, h, n)
      ]

  -- which states these are
  state_elsewhere : (c' c : Counted) → Elsewhere c' c → state (replaced S r) c'.state ≡ state S c.state
  state_elsewhere c' c R = rw R.0 (other_state S r c.state R.1 R.2)

  state_counts : (c' c : Counted) → Counts c' c → state (replaced S r) c'.state ≡ counted r (length S) q (count_of c.waits)
  state_counts c' c R = rw R.1 (count_state S r (count_of c.waits) fits.there (omega arith))

  -- they have the same labels
  label_same : (c' c : Counted) → Same c' c → (state (replaced S r) c'.state).label ≡ (state S c.state).label
  unfolding counted
  label_same c' c (inl R) = ap (λ (x : State). x.label) (state_elsewhere c' c R)
  label_same c' c (inr R) = ap (λ (x : State). x.label) (state_counts c' c R) ∙ ap (λ (s : ℕ). (state S s).label) R.0

  -- no other range names a count
  unnamed_count : (k : ℕ) (p : Range) → In p rs → p.state ≡ count_number r (length S) k → ⊥
  unnamed_count zero p i e = (others p i).1 e
  unnamed_count (suc k) p i e = omega (arith, (others p i).0)

  -- so the other ranges allow the same
  allows_same : (c' c : Counted) → Same c' c → (e : Event) → T (all (λ p. allows p c' e) rs) ↔ T (all (λ p. allows p c e) rs)
  allows_same c' c (inl R) e = rw R.0 Iff.rfl
  allows_same c' c (inr R) e = (
    (λ t. in_all (λ p. allows p c e) rs (λ p i. rw (allows_other p c e (λ x. (others p i).1 (x ∙ sym R.0))) tt)),
    (λ t. in_all (λ p. allows p c' e) rs (λ p i. rw (allows_other p c' e (λ x. unnamed_count (count_of c.waits) p i (x ∙ R.1))) tt)),
  )

  -- ---- moves that stand for each other, and lead to where the two agree again
  record Pair (c' c : Counted) (m' m : Move) : Type 0 where
    new : In m' (state (replaced S r) c'.state).moves
    old : In m (state S c.state).moves
    event : m'.event ≡ m.event
    allowed : T (allows r c m.event)
    same : Same (led c' m') (led c m)

  -- elsewhere a move stands for itself
  same_led : (c : Counted) (m : Move) → (r.state ≡ c.state → ⊥) → m.target < length S → Same (led c m) (led c m)
  same_led c m n h =
      elim (ℕ_discrete r.state m.target) [
        | yes e ↦ rw (led_entered c m (λ x y. n (e ∙ y))) (same_entered m.target h)
        | no k ↦ inl (refl, rw led_state h, rw led_state k)
      ]

  pair_elsewhere : (c' c : Counted) (m : Move) → Elsewhere c' c → In m (state S c.state).moves → Pair c' c m m
  pair_elsewhere c' c m R i =
      record {
        new = rw (state_elsewhere c' c R) i;
        old = i;
        event = refl;
        allowed = rw (allows_other r c m.event R.2) tt;
        same = rw R.0 (same_led c m R.2 ((W.each c.state R.1).inside m i));
      }

  -- so does a send at a count
  pair_send : (c' c : Counted) (m : Move) → Counts c' c → In m q.moves → T (sent m.event) → r.least ≤ c.waits → Pair c' c m m
  pair_send c' c m R i t l =
      let k = count_of c.waits in
      let b = least_last r fits.within in
      let no_tick : m.event ≡ tick → ⊥ = λ e. rw e at t in
      record {
        new = rw (state_counts c' c R) (in_counted r (length S) k q m m i (send_in r (length S) k m t (omega arith)));
        old = rw (← R.0) i;
        event = refl;
        allowed = rw (allows_named r c m.event R.0, T_true (sent m.event) t) (le→leb r.least c.waits l);
        same = rw (led_entered c' m (λ x y. no_tick x), led_entered c m (λ x y. no_tick x)) (same_entered m.target ((W.each r.state fits.there).inside m i));
      }

  -- the state's move that isn't sent is its tick back
  is_tick : (m : Move) → In m q.moves → (T (sent m.event) → ⊥) → (m.event ≡ tick) × (m.target ≡ r.state)
  is_tick m i n =
      let d = fits.waits.0 in
      ⊎_elim
      (λ (e : m ≡ d.0). absurd (n (rw e d.3)))
      (λ (e : m ≡ d.1). (ap (λ (x : Move). x.event) e ∙ d.4, ap (λ (x : Move). x.target) e ∙ fits.waits.1))
      (pair d.0 d.1 q.moves d.2 m i)

  -- and the tick onward stands for the tick back
  pair_tick : (c' c : Counted) (m : Move) → Counts c' c → In m q.moves → (T (sent m.event) → ⊥) → T (below c.waits r.greatest)
      → Pair c' c (tick_onward r (length S) (count_of c.waits) m) m
  pair_tick c' c m R i n l =
      let k = count_of c.waits in
      let t = is_tick m i n in
      let next : min (suc k) (last_count r) ≡ count_of (suc c.waits) = omega arith in
      record {
        new = rw (state_counts c' c R) (in_counted r (length S) k q m (tick_onward r (length S) k m) i (tick_in r (length S) k m n (rw (below_min r c.waits) l)));
        old = rw (← R.0) i;
        event = refl;
        allowed = rw (allows_named r c m.event R.0, T_false (sent m.event) n) l;
        same = rw (led_waits c m t.0 (t.1 ∙ R.0)) (inr (sym t.1, led_state c' (tick_onward r (length S) k m) ∙ ap (count_number r (length S)) next));
      }

  -- each move of the longer table stands for one that is allowed
  old_move : (c' c : Counted) → Same c' c → (m' : Move) → In m' (state (replaced S r) c'.state).moves → (m : Move) × Pair c' c m' m
  old_move c' c (inl R) m' i = (m', pair_elsewhere c' c m' R (rw (state_elsewhere c' c R) at i))
  old_move c' c (inr R) m' i =
      let k = count_of c.waits in
      let o = of_counted r (length S) k q m' (rw (state_counts c' c R) at i) in
      let m = o.0 in (
        m,
        ⊎_elim
            (λ w. subst⁻¹ (λ (x : Move). Pair c' c x m) w.2 (pair_send c' c m R o.1 w.0 (omega (arith, w.1))))
            (λ w. subst⁻¹ (λ (x : Move). Pair c' c x m) w.2 (pair_tick c' c m R o.1 w.0 (rw (below_min r c.waits) at w.1)))
            (of_counted_move r (length S) k m m' o.2),
      )

  -- and for each that is allowed there is one
  new_move : (c' c : Counted) → Same c' c → (m : Move) → In m (state S c.state).moves → T (allows r c m.event) → (m' : Move) × Pair c' c m' m
  new_move c' c (inl R) m i a = (m, pair_elsewhere c' c m R i)
  new_move c' c (inr R) m i a =
      let j : In m q.moves = rw R.0 i in
      let b = rw (allows_named r c m.event R.0) at a in
      elim (T-dec (sent m.event)) [
        | yes t ↦ (m, pair_send c' c m R j t (leb→le r.least c.waits (rw (T_true (sent m.event) t) at b)))
        | no n ↦ (tick_onward r (length S) (count_of c.waits) m, pair_tick c' c m R j n (rw (T_false (sent m.event) n) at b))
      ]

  -- so the runs are the same
  under_one : (c' c : Counted) → Same c' c → (es : List Event) (ws : List ℕ) → TakesUnder (replaced S r) rs c' es ws ↔ TakesUnder S (r ∷ rs) c es ws
  unfolding all
  under_one c' c R [] ws = rw (label_same c' c R) Iff.rfl
  under_one c' c R (e ∷ es) ws =
      let label = label_same c' c R in
      let others_same = allows_same c' c R e in (
        (λ t.
            let w = old_move c' c R t.0 t.2 in
            let m = w.0 in
            let p = w.1 in
            let event : m.event ≡ e = sym p.event ∙ t.3 in
            let allowed = both_and (allows r c e) (all (λ x. allows x c e) rs) (rw event at p.allowed) (others_same.0 t.4) in
            (m, t.1, p.old, event, allowed, rw label at t.5, (under_one (led c' t.0) (led c m) p.same es t.1).0 t.6)),
        (λ t.
            let a = and_both (allows r c e) (all (λ x. allows x c e) rs) t.4 in
            let w = new_move c' c R t.0 t.2 (rw t.3 a.0) in
            let m = w.0 in
            let p = w.1 in
            (m, t.1, p.new, p.event ∙ t.3, others_same.1 a.1, rw label t.5, (under_one (led c' m) (led c t.0) p.same es t.1).1 t.6)),
      )

-- ---- all states replaced
runs_of : (S : Side) (rs : List Range) → Whole S → AllFit S rs → (es : List Event) (ws : List ℕ) → Takes (ranged S rs) 0 es ws ↔ TakesUnder S rs (entered 0) es ws
unfolding ranged
runs_of S [] W f es ws = under_none S (entered 0) es ws
runs_of S (r ∷ rs) W f es ws =
    let others : (p : Range) → In p rs → (p.state < length S) × (p.state ≡ r.state → ⊥) = λ p i. ((each_fits S rs f.2 p i).there, f.1 p i) in
    Iff.trans
    (runs_of (replaced S r) rs (replaced_whole S r W f.0) (all_fit_kept S r rs f.1 f.2) es ws)
    (under_one S r rs W f.0 others (entered 0) (entered 0) (same_entered S r rs W f.0 others 0 W.some_state) es ws)

pub same_runs : (S : Side) (rs : List Range) → WellFormedSide S → AllFit S rs → (es : List Event) (ws : List ℕ)
    → Takes (ranged S rs) 0 es ws ↔ TakesUnder S rs (entered 0) es ws
same_runs S rs wf f = runs_of S rs (whole S wf) f
