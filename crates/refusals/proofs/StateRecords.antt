-- Tests 5 and 6 of a state record, as the code makes them: place by place.
use mathlib.Core.Path.{◌≡◌, refl, sym, ap, ◌∙◌}
use mathlib.Core.Bool.{Bool, true, false, not, ◌&&◌, ◌||◌}
use Prim.Native.Nat.{ℕ, ◌<◌}
use native.Mathlib.Omega.{arith}
use borrow.Author.Tests.{eqb-true}
use lib.Dec.{eqb, leb, ltb}
use lib.ListN.{get_or}
use Rattle.model.specs.Events.{Event, same_event}
use Rattle.model.specs.Sides.{Move, any_sent}
use Rattle.layout.specs.declared.states.StateRecord.{StateRecord}
use Rattle.layout.specs.Sizes.{place_count}
use Rattle.layout.specs.Tables.{every, distinct}
use Rattle.layout.specs.States.{no_place, move_of, state_of}
use Rattle.layout.specs.Tests.{in_range, move, state_right, sends_or_waits, is_input, is_output_only, is_delayed, kind_right}
use Rattle.refusals.proofs.Ranges.{every_cong, every_both}
use Rattle.layout.proofs.RecordMoves.{moves_length, move_at}

-- ---- 5
module _ (q : StateRecord) where
  abbrev pub event_at : ℕ → Event
  event_at k = (get_or q.places k no_place).event

  abbrev pub target_at : ℕ → ℕ
  target_at k = (get_or q.places k no_place).target

  -- the event of place k stands at no earlier place
  abbrev pub fresh : ℕ → Bool
  fresh k = every k (λ j. not (same_event (event_at j) (event_at k)))

module _ (n : ℕ) (q : StateRecord) where
  abbrev c : ℕ
  c = q.count

  places_right : state_right n (state_of q)
      ≡ (leb 1 c && leb c place_count && every c (λ k. in_range (event_at q k)) && every c (fresh q) && every c (λ k. ltb (target_at q k) n))
  unfolding state_right distinct
  places_right =
      let s = state_of q in
      let e : every c (λ k. in_range (move s k).event) ≡ every c (λ k. in_range (event_at q k)) =
      every_cong (λ k. in_range (move s k).event) (λ k. in_range (event_at q k)) c (λ k h. ap (λ (m : Move). in_range m.event) (move_at q k h)) in
      let t : every c (λ k. ltb (move s k).target n) ≡ every c (λ k. ltb (target_at q k) n) =
      every_cong (λ k. ltb (move s k).target n) (λ k. ltb (target_at q k) n) c (λ k h. ap (λ (m : Move). ltb m.target n) (move_at q k h)) in
      let d : every c (λ k. every k (λ j. not (same_event (move s j).event (move s k).event))) ≡ every c (fresh q) =
      every_cong (λ k. every k (λ j. not (same_event (move s j).event (move s k).event))) (fresh q) c (λ k h.
      every_cong (λ j. not (same_event (move s j).event (move s k).event)) (λ j. not (same_event (event_at q j) (event_at q k))) k (λ j l.
      let i : j < c = omega arith in
      ap (λ (m : Move). not (same_event m.event (move s k).event)) (move_at q j i) ∙ ap (λ (m : Move). not (same_event (event_at q j) m.event)) (move_at q k h))) in
      rw (moves_length q, e, d, t)

  -- place k of a state of a side that has n, as the code tests it
  abbrev pub placed : ℕ → Bool
  placed k = in_range (event_at q k) && fresh q k && ltb (target_at q k) n

  pub placed_right : state_right n (state_of q) ≡ (leb 1 c && leb c place_count && every c placed)
  placed_right =
      let a = leb 1 c && leb c place_count in
      let r : ℕ → Bool = λ k. in_range (event_at q k) in
      let t : ℕ → Bool = λ k. ltb (target_at q k) n in
      places_right
      ∙ regrouped a (every c r) (every c (fresh q)) (every c t)
      ∙ sym (ap (λ b. a && b) (every_both (λ k. r k && fresh q k) t c ∙ ap (λ b. b && every c t) (every_both r (fresh q) c)))
    where
      regrouped : (a r d t : Bool) → (((a && r) && d) && t) ≡ (a && ((r && d) && t))
      regrouped true r d t = refl
      regrouped false r d t = refl

-- ---- 6
-- a test of two of a record's places, in the one order and in the other
module _ (p : Move → Move → Bool) (q : StateRecord) where
  abbrev pub in_order : Bool
  in_order = p (move_of (get_or q.places 0 no_place)) (move_of (get_or q.places 1 no_place))

  abbrev pub turned_round : Bool
  turned_round = p (move_of (get_or q.places 1 no_place)) (move_of (get_or q.places 0 no_place))

  -- is one of its moves, where it has two
  pub by_places : q.count ≡ 2 → (p (move (state_of q) 0) (move (state_of q) 1) || p (move (state_of q) 1) (move (state_of q) 0)) ≡ (in_order || turned_round)
  by_places t = rw (move_at q 0 (omega arith), move_at q 1 (omega arith))

-- a state that sends has one transition, or two of which one is sent and the other is the tick
pub kind_by_count : (q : StateRecord)
    → kind_right (state_of q)
    ≡ (not (any_sent (state_of q).moves) || eqb q.count 1 || eqb q.count 2 && (in_order sends_or_waits q || turned_round sends_or_waits q))
unfolding kind_right is_input is_output_only is_delayed
kind_by_count q =
    rw (moves_length q)
    (by_sent (any_sent (state_of q).moves) (eqb q.count 1) (eqb q.count 2) _ _ (λ e. by_places sends_or_waits q (eqb-true q.count 2 e)))
  where
    by_sent : (x o t y z : Bool) → (t ≡ true → y ≡ z) → ((not x || (o && x)) || (t && y)) ≡ ((not x || o) || (t && z))
    by_sent false o t y z e = refl
    by_sent true true t y z e = refl
    by_sent true false true y z e = e refl
    by_sent true false false y z e = refl
