-- Well-formed designs by a test that computes.
use mathlib.Core.Path.{◌≡◌, refl, sym, ap, subst}
use mathlib.Core.Bool.{Bool, true, false, not, ◌&&◌, ◌||◌}
use mathlib.Core.Logic.{inl, inr, ⊎_elim, ◌↔◌}
use mathlib.Core.List.{List, [], ◌∷◌, Memᴰ as In}
use Prim.Native.Nat.{ℕ, zero, suc, ◌*◌, ◌<◌}
use native.Mathlib.Nat.{not-suc-le-zero, le_of_suc-le-suc}
use native.Mathlib.Omega.{arith}
use lib.IntN.{nat_abs}
use lib.Dec.{T, T_not, not_T, leb, ltb, leb→le, ltb→lt, lt→ltb}
use lib.ListN.{length, get_or}
use Rattle.model.specs.Events.{Event, tick, sent, same_event}
use Rattle.model.specs.Sides.{Move, State, Side, state, no_move, input, output_only, delayed, any_sent, WellFormedState, HasKind, WellFormedSide}
use Rattle.model.specs.Joined.{side_labels}
use Rattle.model.specs.Formulas.{Form, truth, falsity, prop, nprop, conj, disj, ax, au, ag, LowerForm, Lower, PropForm, Propositions}
use Rattle.model.specs.Designs.{Design, WellFormed}
use Rattle.model.specs.Positions.{any}
use Rattle.model.specs.Judged.{all}
use Rattle.model.proofs.Bools.{and_both, both_and, or_either}
use Rattle.model.proofs.Lists.{all_in, in_any, get_or_in}
use Rattle.model.proofs.Count.{below_suc}
use Rattle.model.proofs.StateKinds.{sent_any}
use Rattle.model.proofs.SameEvent.{same_event_refl, sent_and_tick}

-- ---- the tests
-- every number below n passes
unfoldable pub all_below : (ℕ → Bool) → ℕ → Bool
all_below p zero = true
all_below p (suc n) = p n && all_below p n

-- no event twice
unfoldable pub distinct? : List Move → Bool
distinct? [] = true
distinct? (m ∷ ms) = not (any (λ w. same_event m.event w.event) ms) && distinct? ms

-- refusal 5
unfoldable pub state? : ℕ → State → Bool
state? n q = leb 1 (length q.moves) && leb (length q.moves) 8 && all (λ m. leb (nat_abs m.event) 63) q.moves && distinct? q.moves && all (λ m. ltb m.target n) q.moves

-- m is sent, and w is the tick
abbrev pub waiting? : Move → Move → Bool
waiting? m w = sent m.event && same_event w.event tick

-- moves of a state that sends: one sent, or one sent and a tick
unfoldable pub sends? : List Move → Bool
sends? [] = false
sends? (m ∷ []) = sent m.event
sends? (m ∷ w ∷ []) = waiting? m w || waiting? w m
sends? (m ∷ w ∷ x ∷ ms) = false

-- refusal 6
unfoldable pub kind? : State → Bool
kind? q = not (any_sent q.moves) || sends? q.moves

-- a whole side
unfoldable pub side? : Side → Bool
side? S = leb 1 (length S) && leb (length S) 16 && all_below (λ s. state? (length S) (state S s)) (length S) && all_below (λ s. kind? (state S s)) (length S)

-- refusal 7: operands are lower
unfoldable pub lower? : ℕ → Form → Bool
lower? k truth = true
lower? k falsity = true
lower? k (prop p) = true
lower? k (nprop p) = true
lower? k (conj a b) = ltb a k && ltb b k
lower? k (disj a b) = ltb a k && ltb b k
lower? k (ax a) = ltb a k
lower? k (au a b) = ltb a k && ltb b k
lower? k (ag a) = ltb a k

-- and propositions are labels of n sides
unfoldable pub prop? : ℕ → Form → Bool
prop? n truth = true
prop? n falsity = true
prop? n (prop p) = ltb p (side_labels * n)
prop? n (nprop p) = ltb p (side_labels * n)
prop? n (conj a b) = true
prop? n (disj a b) = true
prop? n (ax a) = true
prop? n (au a b) = true
prop? n (ag a) = true

unfoldable pub props? : Design → Bool
props? D = all_below (λ k. prop? (length D.sides) (get_or D.forms k truth)) (length D.forms)

-- a design but for its propositions
unfoldable pub parts? : Design → Bool
parts? D =
    all side? D.sides && all_below (λ k. lower? k (get_or D.forms k truth)) (length D.forms)
    && all (λ r. ltb r (length D.forms)) D.rules

-- a whole design
unfoldable pub well_formed? : Design → Bool
well_formed? D = parts? D && props? D

-- ---- what each test says, from the parts to the whole
below_all : (p : ℕ → Bool) (n : ℕ) → T (all_below p n) → (i : ℕ) → i < n → T (p i)
unfolding all_below
below_all p zero t i h = absurd (not-suc-le-zero h)
below_all p (suc n) t i h = let w = and_both (p n) (all_below p n) t in below_suc (λ i. T (p i)) n (below_all p n w.1) w.0 i h

all_below_all : (p : ℕ → Bool) (n : ℕ) → ((i : ℕ) → i < n → T (p i)) → T (all_below p n)
unfolding all_below
all_below_all p zero f = tt
all_below_all p (suc n) f = both_and (p n) (all_below p n) (f n (omega arith)) (all_below_all p n (λ i h. f i (omega arith)))

-- the first move's event stands at no later move
first_alone : (m : Move) (ms : List Move) → T (distinct? (m ∷ ms)) → (k : ℕ) → k < length ms → m.event ≡ (get_or ms k no_move).event → ⊥
unfolding distinct?
first_alone m ms t k h e =
    let same : Move → Bool = λ w. same_event m.event w.event in
    let w = and_both (not (any same ms)) (distinct? ms) t in
    T_not (any same ms) w.0 (in_any same (get_or_in ms k no_move h) (subst (λ (x : Event). T (same_event m.event x)) e (same_event_refl m.event)))

-- no event twice, by index
distinct_once : (ms : List Move) → T (distinct? ms) → (j k : ℕ) → j < length ms → k < length ms → (get_or ms j no_move).event ≡ (get_or ms k no_move).event → j ≡ k
unfolding distinct?
distinct_once [] t j k hj hk e = absurd (not-suc-le-zero hj)
distinct_once (m ∷ ms) t zero zero hj hk e = refl
distinct_once (m ∷ ms) t zero (suc k) hj hk e = absurd (first_alone m ms t k (le_of_suc-le-suc hk) e)
distinct_once (m ∷ ms) t (suc j) zero hj hk e = absurd (first_alone m ms t j (le_of_suc-le-suc hj) (sym e))
distinct_once (m ∷ ms) t (suc j) (suc k) hj hk e =
    let w = and_both (not (any (λ w. same_event m.event w.event) ms)) (distinct? ms) t in
    ap suc (distinct_once ms w.1 j k (le_of_suc-le-suc hj) (le_of_suc-le-suc hk) e)

state_formed : (n : ℕ) (q : State) → T (state? n q) → WellFormedState n q
unfolding state?
state_formed n q t =
    let a = leb 1 (length q.moves) in
    let b = leb (length q.moves) 8 in
    let c = all (λ m. leb (nat_abs m.event) 63) q.moves in
    let d = distinct? q.moves in
    let e = all (λ m. ltb m.target n) q.moves in
    let u = and_both (a && b && c && d) e t in
    let w = and_both (a && b && c) d u.0 in
    let x = and_both (a && b) c w.0 in
    let y = and_both a b x.0 in
    record {
      some_move = leb→le 1 (length q.moves) y.0;
      at_most_eight = leb→le (length q.moves) 8 y.1;
      in_range = λ m i. leb→le (nat_abs m.event) 63 (all_in (λ m. leb (nat_abs m.event) 63) i x.1);
      once = distinct_once q.moves w.1;
      inside = λ m i. ltb→lt m.target n (all_in (λ m. ltb m.target n) i u.1);
    }

sends_right : (q : State) (ms : List Move) → q.moves ≡ ms → T (sends? ms) → HasKind q
unfolding sends?
sends_right q [] e t = absurd t
sends_right q (m ∷ []) e t = (output_only, (m, e, t))
sends_right q (m ∷ w ∷ []) e t =
    ⊎_elim
    (λ (x : T (waiting? m w)). let r = sent_and_tick m.event w.event x in (delayed, (m, w, inl e, r.0, r.1)))
    (λ (x : T (waiting? w m)). let r = sent_and_tick w.event m.event x in (delayed, (w, m, inr e, r.0, r.1)))
    (or_either (waiting? m w) (waiting? w m) t)
sends_right q (m ∷ w ∷ x ∷ ms) e t = absurd t

kind_formed : (q : State) → T (kind? q) → HasKind q
unfolding kind?
kind_formed q t =
    ⊎_elim
    (λ (x : T (not (any_sent q.moves))). (input, λ m i. not_T (sent m.event) (λ y. T_not (any_sent q.moves) x (sent_any q.moves m i y))))
    (λ (x : T (sends? q.moves)). sends_right q q.moves refl x)
    (or_either (not (any_sent q.moves)) (sends? q.moves) t)

pub side_formed : (S : Side) → T (side? S) → WellFormedSide S
unfolding side?
side_formed S t =
    let a = leb 1 (length S) in
    let b = leb (length S) 16 in
    let c = all_below (λ s. state? (length S) (state S s)) (length S) in
    let d = all_below (λ s. kind? (state S s)) (length S) in
    let u = and_both (a && b && c) d t in
    let w = and_both (a && b) c u.0 in
    let x = and_both a b w.0 in
    record {
      some_state = leb→le 1 (length S) x.0;
      at_most_sixteen = leb→le (length S) 16 x.1;
      each = λ s h. state_formed (length S) (state S s) (below_all (λ s. state? (length S) (state S s)) (length S) w.1 s h);
      kinds = λ s h. kind_formed (state S s) (below_all (λ s. kind? (state S s)) (length S) u.1 s h);
    }

pub two_lower : (a b k : ℕ) → T (ltb a k && ltb b k) → (a < k) × (b < k)
two_lower a b k t = let w = and_both (ltb a k) (ltb b k) t in (ltb→lt a k w.0, ltb→lt b k w.1)

lower_formed : (k : ℕ) (r : Form) → T (lower? k r) → LowerForm k r
unfolding lower?
lower_formed k truth t = tt
lower_formed k falsity t = tt
lower_formed k (prop p) t = tt
lower_formed k (nprop p) t = tt
lower_formed k (conj a b) t = two_lower a b k t
lower_formed k (disj a b) t = two_lower a b k t
lower_formed k (ax a) t = ltb→lt a k t
lower_formed k (au a b) t = two_lower a b k t
lower_formed k (ag a) t = ltb→lt a k t

prop_formed : (n : ℕ) (r : Form) → T (prop? n r) ↔ PropForm n r
unfolding prop?
prop_formed n truth = (λ t. tt, λ t. tt)
prop_formed n falsity = (λ t. tt, λ t. tt)
prop_formed n (prop p) = (ltb→lt p (side_labels * n), lt→ltb p (side_labels * n))
prop_formed n (nprop p) = (ltb→lt p (side_labels * n), lt→ltb p (side_labels * n))
prop_formed n (conj a b) = (λ t. tt, λ t. tt)
prop_formed n (disj a b) = (λ t. tt, λ t. tt)
prop_formed n (ax a) = (λ t. tt, λ t. tt)
prop_formed n (au a b) = (λ t. tt, λ t. tt)
prop_formed n (ag a) = (λ t. tt, λ t. tt)

module _ (D : Design) where
  abbrev n : ℕ
  n = length D.forms

  pub props_formed : T (props? D) ↔ Propositions (length D.sides) D.forms
  unfolding props?
  props_formed =
      let test : ℕ → Bool = λ k. prop? (length D.sides) (get_or D.forms k truth) in (
        λ t k h. (prop_formed (length D.sides) (get_or D.forms k truth)).0 (below_all test n t k h),
        λ f. all_below_all test n (λ k h. (prop_formed (length D.sides) (get_or D.forms k truth)).1 (f k h)),
      )

  pub parts_formed : T (parts? D) → ((S : Side) → In S D.sides → WellFormedSide S) × Lower D.forms × ((r : ℕ) → In r D.rules → r < n)
  unfolding parts?
  parts_formed t =
      let a = all side? D.sides in
      let b = all_below (λ k. lower? k (get_or D.forms k truth)) n in
      let c = all (λ r. ltb r n) D.rules in
      let u = and_both (a && b) c t in
      let w = and_both a b u.0 in (
        λ S i. side_formed S (all_in side? i w.0),
        λ k h. lower_formed k (get_or D.forms k truth) (below_all (λ k. lower? k (get_or D.forms k truth)) n w.1 k h),
        λ r i. ltb→lt r n (all_in (λ r. ltb r n) i u.1),
      )

  -- a design that passes the test is well formed
  pub formed : T (well_formed? D) → WellFormed D
  unfolding well_formed?
  formed t =
      let u = and_both (parts? D) (props? D) t in
      let p = parts_formed u.0 in
      record { each_side = p.0; lower = p.1; propositions = props_formed.0 u.1; rules_there = p.2 }
