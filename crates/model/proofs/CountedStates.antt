-- A state that counts its waits: the counts of a range, the moves at each count, and the form of the state.
use mathlib.Core.Path.{◌≡◌, refl, sym, ap}
use mathlib.Core.Bool.{Bool, true, false, cond}
use mathlib.Core.Logic.{◌⊎◌, inl, inr, ⊎_elim}
use mathlib.Core.List.Memᴰ.{eq_of_singleton as in_one}
use mathlib.Core.List.Memᴰ.{head as here}
use mathlib.Core.List.{List, [], ◌∷◌, ◌++◌, flatten, Memᴰ as In}
use Prim.Native.Nat.{ℕ, zero, suc, ◌+◌, ◌≤◌, ◌<◌, min}
use native.Mathlib.Omega.{arith}
use native.Mathlib.Decide.{dec_lt}
use lib.Dec.{T, leb, ltb, leb→le, ltb→lt, le→leb, lt→ltb}
use lib.ListN.{get_or}
use Rattle.model.specs.Events.{tick, sent, InRange}
use Rattle.model.specs.Sides.{Move, State, no_move, input, output_only, delayed, IsDelayed, WellFormedState, HasKind}
use Rattle.model.specs.Ranges.{Greatest, up_to, none, Range, below, last_count, count_number, onward, counted_move, counted, Within}
use Rattle.model.proofs.Bools.{T_true, T_false, T-dec, bool_iff}
use Rattle.model.proofs.Lists.{in_flat, of_flat, of_one}

-- ---- the counts of a range
-- the range with another greatest count
abbrev with_greatest : Range → Greatest → Range
with_greatest r g = record { state = r.state; least = r.least; greatest = g }

-- the least count has a state
pub least_last : (r : Range) → Within r → r.least ≤ last_count r
least_last r = by r.greatest
  where
    by : (g : Greatest) → Within (with_greatest r g) → r.least ≤ last_count (with_greatest r g)
    by (up_to g) h = h
    by none h = omega arith

-- below the last count there are ticks
below_last : (r : Range) (k : ℕ) → k < last_count r → T (below k r.greatest)
below_last r k = by r.greatest
  where
    by : (g : Greatest) → k < last_count (with_greatest r g) → T (below k g)
    by (up_to g) h = lt→ltb k g h
    by none h = tt

-- the last count stands for all that are greater
pub below_min : (r : Range) (w : ℕ) → below (min w (last_count r)) r.greatest ≡ below w r.greatest
below_min r w = by r.greatest
  where
    by : (g : Greatest) → below (min w (last_count (with_greatest r g))) g ≡ below w g
    by (up_to g) =
        bool_iff (ltb (min w g) g) (ltb w g) (λ t. lt→ltb w g (omega (arith, ltb→lt (min w g) g t))) (λ t. lt→ltb (min w g) g (omega (arith, ltb→lt w g t)))
    by none = refl

-- ---- the moves of a state that counts
-- the tick onward from count k, in place of w
abbrev pub tick_onward : Range → ℕ → ℕ → Move → Move
tick_onward r n k w = record { event = w.event; target = onward r n k }

-- what stands for a move: a send from the least count on, a tick onward below the greatest
module _ (r : Range) (n k : ℕ) (m : Move) where
  send_move : T (sent m.event) → counted_move r n k m ≡ cond (leb r.least k) (m ∷ []) []
  unfolding counted_move
  send_move t = rw (T_true (sent m.event) t)

  tick_move : (T (sent m.event) → ⊥) → counted_move r n k m ≡ cond (below k r.greatest) (tick_onward r n k m ∷ []) []
  unfolding counted_move
  tick_move t = rw (T_false (sent m.event) t)

  pub send_in : T (sent m.event) → r.least ≤ k → In m (counted_move r n k m)
  send_in t l = rw (send_move t, T_true (leb r.least k) (le→leb r.least k l)) (here refl)

  pub tick_in : (T (sent m.event) → ⊥) → T (below k r.greatest) → In (tick_onward r n k m) (counted_move r n k m)
  tick_in t l = rw (tick_move t, T_true (below k r.greatest) l) (here refl)

  pub of_counted_move : (x : Move) → In x (counted_move r n k m)
      → (T (sent m.event) × (r.least ≤ k) × (x ≡ m)) ⊎ ((T (sent m.event) → ⊥) × T (below k r.greatest) × (x ≡ tick_onward r n k m))
  of_counted_move x i = by (T-dec (sent m.event))
    where
      by : Dec (T (sent m.event))
          → (T (sent m.event) × (r.least ≤ k) × (x ≡ m)) ⊎ ((T (sent m.event) → ⊥) × T (below k r.greatest) × (x ≡ tick_onward r n k m))
      by (yes t) = let w = of_one (leb r.least k) x m (rw (send_move t) at i) in inl (t, leb→le r.least k w.0, w.1)
      by (no t) = let w = of_one (below k r.greatest) x (tick_onward r n k m) (rw (tick_move t) at i) in inr (t, w.0, w.1)

-- the moves of the whole state are those that stand for the old ones
pub in_counted : (r : Range) (n k : ℕ) (q : State) (m x : Move) → In m q.moves → In x (counted_move r n k m) → In x (counted r n q k).moves
unfolding counted
in_counted r n k q m x i j = in_flat (counted_move r n k) i j

pub of_counted : (r : Range) (n k : ℕ) (q : State) (x : Move) → In x (counted r n q k).moves → (m : Move) × In m q.moves × In x (counted_move r n k m)
unfolding counted
of_counted r n k q x i = of_flat (counted_move r n k) x q.moves i

-- they are of the same events
counted_event : (r : Range) (n k : ℕ) (m x : Move) → In x (counted_move r n k m) → x.event ≡ m.event
counted_event r n k m x i = ⊎_elim (λ w. ap (λ (y : Move). y.event) w.2) (λ w. ap (λ (y : Move). y.event) w.2) (of_counted_move r n k m x i)

-- a number of a state that counts is one in the longer table
count_inside : (r : Range) (n k : ℕ) → r.state < n → k ≤ last_count r → count_number r n k < n + last_count r
count_inside r n zero h l = omega arith
count_inside r n (suc k) h l = omega arith

-- so targets are inside
counted_target : (r : Range) (n k : ℕ) (m x : Move) → r.state < n → m.target < n → In x (counted_move r n k m) → x.target < n + last_count r
counted_target r n k m x h l i =
    ⊎_elim
    (λ w. rw w.2 (omega arith))
    (λ w. rw w.2 (count_inside r n (min (suc k) (last_count r)) h (omega arith)))
    (of_counted_move r n k m x i)

-- ---- the shape of a state that counts
-- of a send m and a tick w one, or both in either order
data Some (m w : Move) : List Move → Type 0 where
  sends : Some m w (m ∷ [])
  ticks : Some m w (w ∷ [])
  sends_ticks : Some m w (m ∷ w ∷ [])
  ticks_sends : Some m w (w ∷ m ∷ [])

-- what is left of both, if any is
some_of : (m w : Move) (a b : Bool) → T a ⊎ T b → Some m w (cond a (m ∷ []) [] ++ (cond b (w ∷ []) [] ++ []))
some_of m w true true t = sends_ticks
some_of m w true false t = sends
some_of m w false true t = ticks
some_of m w false false t = ⊎_elim (λ x. absurd x) (λ x. absurd x) t

some_turned : (m w : Move) (a b : Bool) → T a ⊎ T b → Some m w (cond b (w ∷ []) [] ++ (cond a (m ∷ []) [] ++ []))
some_turned m w true true t = ticks_sends
some_turned m w true false t = sends
some_turned m w false true t = ticks
some_turned m w false false t = ⊎_elim (λ x. absurd x) (λ x. absurd x) t

-- at each count one of them is left, since the least count is no greater than the greatest
sends_or_ticks : (r : Range) (k : ℕ) → Within r → T (leb r.least k) ⊎ T (below k r.greatest)
sends_or_ticks r k h =
    let l = least_last r h in
    elim (dec_lt k r.least) [
      | yes b ↦ inr (below_last r k (omega arith))
      | no n ↦ inl (le→leb r.least k (omega arith))
    ]

counted_shape : (r : Range) (n k : ℕ) (q : State) (d : IsDelayed q) → Within r → Some d.0 (tick_onward r n k d.1) (counted r n q k).moves
unfolding counted flatten
counted_shape r n k q d h =
    let m = d.0 in
    let w = d.1 in
    let a = send_move r n k m d.3 in
    let b = tick_move r n k w (λ t. rw d.4 at t) in
    ⊎_elim
    (λ (e : q.moves ≡ m ∷ w ∷ []). rw (e, a, b) (some_of m (tick_onward r n k w) (leb r.least k) (below k r.greatest) (sends_or_ticks r k h)))
    (λ (e : q.moves ≡ w ∷ m ∷ []). rw (e, a, b) (some_turned m (tick_onward r n k w) (leb r.least k) (below k r.greatest) (sends_or_ticks r k h)))
    d.2

-- of two moves of different events none is there twice
once_two : (x y : Move) → (x.event ≡ y.event → ⊥) → (j k : ℕ) → j < 2 → k < 2
    → (get_or (x ∷ y ∷ []) j no_move).event ≡ (get_or (x ∷ y ∷ []) k no_move).event → j ≡ k
once_two x y n zero zero hj hk e = refl
once_two x y n zero (suc zero) hj hk e = absurd (n e)
once_two x y n (suc zero) zero hj hk e = absurd (n (sym e))
once_two x y n (suc zero) (suc zero) hj hk e = refl
once_two x y n zero (suc (suc k)) hj hk e = absurd (omega arith)
once_two x y n (suc zero) (suc (suc k)) hj hk e = absurd (omega arith)
once_two x y n (suc (suc j)) k hj hk e = absurd (omega arith)

module _ (label : ℕ) (m w : Move) (s : T (sent m.event)) (t : w.event ≡ tick) where
  apart : m.event ≡ w.event → ⊥
  apart e = rw (e, t) at s

  some_kind : {l : List Move} → Some m w l → HasKind (record { label = label; moves = l })
  some_kind sends = (output_only, (m, refl, s))
  some_kind ticks = (input, λ x i. rw (in_one i, t) tt)
  some_kind sends_ticks = (delayed, (m, w, inl refl, s, t))
  some_kind ticks_sends = (delayed, (m, w, inr refl, s, t))

  some_formed : {n : ℕ} {l : List Move} → Some m w l → ((x : Move) → In x l → InRange x.event) → ((x : Move) → In x l → x.target < n)
      → WellFormedState n (record { label = label; moves = l })
  some_formed sends a b = record { some_move = omega arith; at_most_eight = omega arith; in_range = a; once = λ j k hj hk e. omega arith; inside = b }
  some_formed ticks a b = record { some_move = omega arith; at_most_eight = omega arith; in_range = a; once = λ j k hj hk e. omega arith; inside = b }
  some_formed sends_ticks a b = record { some_move = omega arith; at_most_eight = omega arith; in_range = a; once = once_two m w apart; inside = b }
  some_formed ticks_sends a b = record { some_move = omega arith; at_most_eight = omega arith; in_range = a; once = once_two w m (λ e. apart (sym e)); inside = b }

-- ---- the form of a state that counts
pub counted_kind : (r : Range) (n k : ℕ) (q : State) → IsDelayed q → Within r → HasKind (counted r n q k)
unfolding counted
counted_kind r n k q d h = some_kind q.label d.0 (tick_onward r n k d.1) d.3 d.4 (counted_shape r n k q d h)

pub counted_formed : (r : Range) (n k : ℕ) (q : State) → IsDelayed q → Within r → r.state < n → WellFormedState n q
    → WellFormedState (n + last_count r) (counted r n q k)
unfolding counted
counted_formed r n k q d h l f =
    some_formed q.label d.0 (tick_onward r n k d.1) d.3 d.4 (counted_shape r n k q d h)
    (λ x i. let o = of_counted r n k q x i in rw (counted_event r n k o.0 x o.2) (f.in_range o.0 o.1))
    (λ x i. let o = of_counted r n k q x i in counted_target r n k o.0 x l (f.inside o.0 o.1) o.2)
