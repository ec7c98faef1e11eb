-- Tests 5 and 6 of a state say what the model's predicates say.
use mathlib.Core.Path.{◌≡◌, sym, ap, subst, subst⁻¹}
use mathlib.Core.Bool.{Bool, false, ◌&&◌, ◌||◌}
use mathlib.Core.Logic.{◌↔◌, ◌⊎◌, inl, inr, ⊎_elim}
use mathlib.Core.List.{List, [], ◌∷◌, Memᴰ as In}
use Prim.Native.Nat.{ℕ, ◌≤◌, ◌<◌}
use native.Mathlib.Omega.{arith}
use lib.Dec.{T, T_not, not_T, eqb, leb, ltb, leb→le, le→leb, ltb→lt, lt→ltb, eqb→eq}
use lib.IntN.{nat_abs}
use lib.ListN.{length, get_or}
use Rattle.model.specs.Events.{Event, tick, sent, same_event}
use Rattle.model.specs.Sides.{Move, State, Side, state, no_move, any_sent, Kind, input, output_only, delayed, IsInput, IsOutputOnly, IsDelayed, IsKind, WellFormedState, HasKind}
use Rattle.model.specs.Judged.{all}
use Rattle.model.proofs.Bools.{and_both, both_and, or_either, or_left, or_right}
use Rattle.model.proofs.Lists.{all_in, get_or_in, index_in}
use Rattle.model.proofs.SameEvent.{same_event_eq, same_event_refl, sent_and_tick}
use Rattle.model.proofs.StateKinds.{sent_any, any_unsent}
use Rattle.layout.specs.Sizes.{side_count, place_count}
use Rattle.layout.specs.Tables.{table, table_from, every, distinct}
use Rattle.layout.specs.Designs.{design, side, stored_state}
use Rattle.layout.specs.Tests.{in_range, move, state_right, side_right, sends_or_waits, is_input, is_output_only, is_delayed, kind_right, kinds_right}
use Rattle.layout.proofs.DesignBytes.{sides_length, stored_state_is}
use Rattle.layout.proofs.RecordMoves.{moves_length}
use Rattle.layout.proofs.Tables.{each_every, every_each, distinct_once, once_distinct, as_table}

-- equal events pass their test, and only they
same_of : (x y : Event) → x ≡ y → T (same_event x y)
same_of x y e = subst (λ (z : Event). T (same_event x z)) e (same_event_refl x)

-- ---- 5
module _ (n : ℕ) (q : State) where
  abbrev same : ℕ → ℕ → Bool
  same j k = same_event (move q j).event (move q k).event

  swap : (j k : ℕ) → T (same j k) → T (same k j)
  swap j k t = same_of (move q k).event (move q j).event (sym (same_event_eq (move q j).event (move q k).event t))

  -- a test of every place is one of every move
  of_moves : (p : Move → Bool) → T (every (length q.moves) (λ k. p (move q k))) → (m : Move) → In m q.moves → T (p m)
  of_moves p t m i = let w = index_in no_move i in subst (λ (x : Move). T (p x)) w.2 (every_each (λ k. p (move q k)) (length q.moves) t w.0 w.1)

  to_moves : (p : Move → Bool) → ((m : Move) → In m q.moves → T (p m)) → T (every (length q.moves) (λ k. p (move q k)))
  to_moves p f = each_every (λ k. p (move q k)) (length q.moves) (λ k h. f (move q k) (get_or_in q.moves k no_move h))

  state_forms : T (state_right n q) → WellFormedState n q
  unfolding state_right
  state_forms t =
      let l = length q.moves in
      let a = leb 1 l in
      let b = leb l place_count in
      let c = every l (λ k. in_range (move q k).event) in
      let d = distinct l same in
      let e = every l (λ k. ltb (move q k).target n) in
      let u = and_both (a && b && c && d) e t in
      let v = and_both (a && b && c) d u.0 in
      let w = and_both (a && b) c v.0 in
      let x = and_both a b w.0 in
      record {
        some_move = leb→le 1 l x.0;
        at_most_eight = leb→le l 8 x.1;
        in_range = λ m i. leb→le (nat_abs m.event) 63 (of_moves (λ m. in_range m.event) w.1 m i);
        once = λ j k hj hk e. distinct_once same swap l v.1 j k hj hk (same_of (move q j).event (move q k).event e);
        inside = λ m i. ltb→lt m.target n (of_moves (λ m. ltb m.target n) u.1 m i);
      }

  forms_state : WellFormedState n q → T (state_right n q)
  unfolding state_right
  forms_state f =
      let l = length q.moves in
      let a = leb 1 l in
      let b = leb l place_count in
      let c = every l (λ k. in_range (move q k).event) in
      let d = distinct l same in
      let e = every l (λ k. ltb (move q k).target n) in
      both_and (a && b && c && d) e
      (both_and (a && b && c) d
      (both_and (a && b) c
      (both_and a b (le→leb 1 l f.some_move) (le→leb l 8 f.at_most_eight))
      (to_moves (λ m. in_range m.event) (λ m i. le→leb (nat_abs m.event) 63 (f.in_range m i))))
      (once_distinct same swap l (λ j k hj hk t. f.once j k hj hk (same_event_eq (move q j).event (move q k).event t))))
      (to_moves (λ m. ltb m.target n) (λ m i. lt→ltb m.target n (f.inside m i)))

  pub state_formed : T (state_right n q) ↔ WellFormedState n q
  state_formed = (state_forms, forms_state)

-- ---- 6
-- two moves, the one with the other as a test p says, in whichever order they stand
module _ (p : Move → Move → Bool) (q : State) where
  abbrev pub Two : Type 0
  Two = (m : Move) × (w : Move) × ((q.moves ≡ m ∷ w ∷ []) ⊎ (q.moves ≡ w ∷ m ∷ [])) × T (p m w)

  abbrev pub in_some_order : List Move → Bool
  in_some_order l = eqb (length l) 2 && (p (get_or l 0 no_move) (get_or l 1 no_move) || p (get_or l 1 no_move) (get_or l 0 no_move))

  pub two_in_order : T (in_some_order q.moves) → Two
  unfolding table table_from
  two_in_order t =
      let m = move q 0 in
      let w = move q 1 in
      let u = and_both (eqb (length q.moves) 2) (p m w || p w m) t in
      let both : q.moves ≡ m ∷ w ∷ [] = as_table no_move 2 q.moves (eqb→eq (length q.moves) 2 u.0) in
      ⊎_elim (λ (x : T (p m w)). (m, w, inl both, x)) (λ (x : T (p w m)). (w, m, inr both, x)) (or_either (p m w) (p w m) u.1)

  pub order_of_two : Two → T (in_some_order q.moves)
  order_of_two h =
      let m = h.0 in
      let w = h.1 in
      ⊎_elim
      (λ (e : q.moves ≡ m ∷ w ∷ []). subst⁻¹ (λ (l : List Move). T (in_some_order l)) e (or_left (p m w) (p w m) h.3))
      (λ (e : q.moves ≡ w ∷ m ∷ []). subst⁻¹ (λ (l : List Move). T (in_some_order l)) e (or_right (p w m) (p m w) h.3))
      h.2

pub forms_sends : (m w : Move) → T (sent m.event) → w.event ≡ tick → T (sends_or_waits m w)
forms_sends m w t e = both_and (sent m.event) (same_event w.event tick) t (same_of w.event tick e)

module _ (q : State) where
  input_forms : T (is_input q) → IsInput q
  unfolding is_input
  input_forms t m i = not_T (sent m.event) (λ y. T_not (any_sent q.moves) t (sent_any q.moves m i y))

  forms_input : IsInput q → T (is_input q)
  unfolding is_input
  forms_input h = not_T (any_sent q.moves) (any_unsent q.moves h)

  -- a list of one is its move by number
  one_move : T (eqb (length q.moves) 1) → q.moves ≡ move q 0 ∷ []
  unfolding table table_from
  one_move t = as_table no_move 1 q.moves (eqb→eq (length q.moves) 1 t)

  output_forms : T (is_output_only q) → IsOutputOnly q
  unfolding is_output_only any_sent
  output_forms t =
      let w = and_both (eqb (length q.moves) 1) (any_sent q.moves) t in
      let e = one_move w.0 in
      (move q 0, e, ⊎_elim (λ x. x) (λ x. absurd x) (or_either (sent (move q 0).event) false (subst (λ (l : List Move). T (any_sent l)) e w.1)))

  forms_output : IsOutputOnly q → T (is_output_only q)
  unfolding is_output_only any_sent
  forms_output h = subst⁻¹ (λ (l : List Move). T (eqb (length l) 1 && any_sent l)) h.1 (or_left (sent h.0.event) false h.2)

  delayed_forms : T (is_delayed q) → IsDelayed q
  unfolding is_delayed
  delayed_forms t =
      let p = two_in_order sends_or_waits q t in
      let r = sent_and_tick p.0.event p.1.event p.3 in
      (p.0, p.1, p.2, r.0, r.1)

  forms_delayed : IsDelayed q → T (is_delayed q)
  unfolding is_delayed
  forms_delayed h = order_of_two sends_or_waits q (h.0, h.1, h.2, forms_sends h.0 h.1 h.3 h.4)

  kind_forms : T (kind_right q) → HasKind q
  unfolding kind_right
  kind_forms t =
      ⊎_elim
      (λ (x : T (is_input q || is_output_only q)).
      ⊎_elim (λ (y : T (is_input q)). (input, input_forms y)) (λ (y : T (is_output_only q)). (output_only, output_forms y)) (or_either (is_input q) (is_output_only q) x))
      (λ (x : T (is_delayed q)). (delayed, delayed_forms x))
      (or_either (is_input q || is_output_only q) (is_delayed q) t)

  forms_kind : (k : Kind) → IsKind k q → T (kind_right q)
  unfolding kind_right
  forms_kind input h = or_left (is_input q || is_output_only q) (is_delayed q) (or_left (is_input q) (is_output_only q) (forms_input h))
  forms_kind output_only h = or_left (is_input q || is_output_only q) (is_delayed q) (or_right (is_input q) (is_output_only q) (forms_output h))
  forms_kind delayed h = or_right (is_input q || is_output_only q) (is_delayed q) (forms_delayed h)

  pub kind_formed : T (kind_right q) ↔ HasKind q
  kind_formed = (kind_forms, λ h. forms_kind h.0 h.1)

-- ---- of a whole side
pub side_states_formed : (S : Side) → T (side_right S) ↔ ((s : ℕ) → s < length S → WellFormedState (length S) (state S s))
unfolding side_right
side_states_formed S = (
  λ t s h. (state_formed (length S) (state S s)).0 (every_each (λ s. state_right (length S) (state S s)) (length S) t s h),
  λ f. each_every (λ s. state_right (length S) (state S s)) (length S) (λ s h. (state_formed (length S) (state S s)).1 (f s h)),
)

pub side_kinds_formed : (S : Side) → T (kinds_right S) ↔ ((s : ℕ) → s < length S → HasKind (state S s))
unfolding kinds_right
side_kinds_formed S = (
  λ t s h. (kind_formed (state S s)).0 (every_each (λ s. kind_right (state S s)) (length S) t s h),
  λ f. each_every (λ s. kind_right (state S s)) (length S) (λ s h. (kind_formed (state S s)).1 (f s h)),
)

-- ---- of a design's sides
pub side_passes : (bs : List ℕ) → T (all side_right (design bs).sides) → (i : ℕ) → i < side_count → T (side_right (side (design bs) i))
side_passes bs t i h = all_in side_right (get_or_in (design bs).sides i [] (omega (arith, sides_length bs))) t

-- a stored state of a side that passes 5 has at most eight transitions
pub stored_small : (bs : List ℕ) (i : ℕ) → i < side_count → T (side_right (side (design bs) i)) → (k : ℕ) → k < length (side (design bs) i) → (stored_state bs i k).count ≤ place_count
stored_small bs i h t k l =
    omega (arith, moves_length (stored_state bs i k), ap (λ (q : State). length q.moves) (stored_state_is bs i k h l), ((side_states_formed (side (design bs) i)).0 t k l).at_most_eight)
