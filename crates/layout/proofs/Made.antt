-- What a record has after an addition; and the transitions of a right record one by one: each is right, and none has the events of one before it.
use Rattle.std.proofs.Common.{◌≡◌, ℕ, ◌+◌, ◌<◌, ◌≤◌, true, false, not, ◌&&◌, ltb, List, length, get_or, set, nat_abs, sym, refl, ap, ◌∙◌, subst, not-suc-le-zero, arith, below_more, ltb-true, lt-ltb, le-leb, leb-true}
use mathlib.Core.Bool.{false≢true}
use borrow.Author.Tests.{not-false}
use Rattle.model.specs.Events.{Event, tick, InRange}
use Rattle.model.specs.Judged.{all, same_events}
use Rattle.model.proofs.Bools.{T_true, T_false}
use Rattle.model.proofs.JointMoves.{same_events_eq, eq_same_events}
use Rattle.layout.specs.declared.records.Transition.{Transition}
use Rattle.layout.specs.declared.records.Record.{Record}
use Rattle.layout.specs.declared.records.Outcome.TheVariants.{Added}
use Rattle.layout.specs.Sizes.{most_states, place_count, last_event}
use Rattle.layout.specs.Tables.{every}
use Rattle.layout.specs.Records.{no_transition, node_of, present, added}
use Rattle.layout.specs.Tests.{in_range}
use Rattle.layout.proofs.Tables.{and_true, and_left, and_right, all_true, all_at, every_true, every_at}
use Rattle.layout.proofs.ConverterBytes.{names_of, edges_of, edge_of_place}
use Rattle.layout.proofs.Nodes.{WellFormedNode}

-- ---- an addition where there is room
module _ (made : Record) (t : Transition) (room : made.count < place_count) where
  abbrev more : Record
  more = record { names = made.names; count = made.count + 1; places = set made.places made.count t }

  -- the events are not there yet
  pub adds : present made t.events ≡ false → added made t ≡ record { outcome = Added; left = more }
  unfolding added
  adds e = rw (e, lt-ltb made.count place_count room)

-- events that are not present are those of no transition
pub not_there : (made : Record) (es : List Event) → present made es ≡ false → (i : ℕ) → i < made.count → (get_or made.places i no_transition).events ≡ es → ⊥
unfolding present
not_there made es e i h q =
    let p : not (same_events (get_or made.places i no_transition).events es) ≡ true =
    every_at (λ k. not (same_events (get_or made.places k no_transition).events es)) made.count
    (not-false (every made.count (λ k. not (same_events (get_or made.places k no_transition).events es))) e) i h in
    false≢true (sym (ap not (T_true (same_events (get_or made.places i no_transition).events es) (eq_same_events (get_or made.places i no_transition).events es q))) ∙ p)

-- ---- the first k transitions of r, right among n
module _ (r : Record) (n : ℕ) where
  -- transition k of r, and the record of those before it
  abbrev at : ℕ → Transition
  at k = get_or r.places k no_transition

  abbrev pub before : ℕ → Record
  before k = record { names = r.names; count = k; places = r.places }

  pub record RightTo (k : ℕ) : Type 0 where
    pub right : (j : ℕ) → j < k → (all in_range (at j).events && ltb (at j).next n) ≡ true
    pub once : (i j : ℕ) → i < k → j < k → (at i).events ≡ (at j).events → i ≡ j

  -- a right record has right transitions
  pub right_at : WellFormedNode n (node_of r) → (k : ℕ) → k < r.count → (all in_range (at k).events && ltb (at k).next n) ≡ true
  right_at w k h =
      let e = edge_of_place r k h in
      let l : k < length (node_of r).edges = omega (arith, edges_of r) in
      and_true (all in_range (at k).events) (ltb (at k).next n)
      (all_true in_range tick (at k).events (λ i u.
      le-leb (nat_abs (get_or (at k).events i tick)) last_event (subst (λ x. (i : ℕ) → i < length x.events → InRange (get_or x.events i tick)) e (w.in_range_at k l) i u)))
      (lt-ltb (at k).next n (subst (λ x. x.next < n) e (w.inside k l)))

  pub right_none : RightTo 0
  right_none = record { right = λ j h. absurd (not-suc-le-zero h); once = λ i j h l. absurd (not-suc-le-zero l) }

  -- one transition more
  pub right_more : (k : ℕ) → RightTo k → (all in_range (at k).events && ltb (at k).next n) ≡ true → present (before k) (at k).events ≡ false → RightTo (k + 1)
  right_more k m ok none =
      let new : (i : ℕ) → i < k → (at i).events ≡ (at k).events → ⊥ = not_there (before k) (at k).events none in
      record {
        right = below_more (λ j. (all in_range (at j).events && ltb (at j).next n) ≡ true) k m.right ok;
        once = λ i j l u. below_more (λ x. (y : ℕ) → y < k + 1 → (at x).events ≡ (at y).events → x ≡ y) k
            (λ x v. below_more (λ y. (at x).events ≡ (at y).events → x ≡ y) k (λ y. m.once x y v) (λ q. absurd (new x v q)))
            (below_more (λ y. (at k).events ≡ (at y).events → k ≡ y) k (λ y v q. absurd (new y v (sym q))) (λ q. refl)) i l j u;
      }

  -- a right record has no events twice
  pub right_once : (k : ℕ) → k < r.count → WellFormedNode n (node_of r) → present (before k) (at k).events ≡ false
  unfolding present
  right_once k h w =
      ap not (every_true (λ j. not (same_events (at j).events (at k).events)) k (λ j l.
      ap not (T_false (same_events (at j).events (at k).events) (λ t.
      let e = edges_of r in
      let q : j ≡ k =
      w.once j k (omega arith) (omega arith)
      (ap (λ x. x.events) (edge_of_place r j (omega arith)) ∙ same_events_eq (at j).events (at k).events t ∙ sym (ap (λ x. x.events) (edge_of_place r k h))) in
      omega arith))))

  -- all of them
  pub right_all : RightTo r.count → ((i : ℕ) → i < length r.names → get_or r.names i 0 < most_states)
      → 1 ≤ r.count → r.count ≤ place_count → WellFormedNode n (node_of r)
  right_all m names some eight =
      let e = edges_of r in
      record {
        names_below = subst (λ ss. (i : ℕ) → i < length ss → get_or ss i 0 < most_states) (sym (names_of r)) names;
        some_edge = omega arith;
        at_most_eight = omega arith;
        in_range_at = λ k h.
            let l : k < r.count = omega arith in
            subst (λ x. (i : ℕ) → i < length x.events → InRange (get_or x.events i tick)) (sym (edge_of_place r k l)) (λ i u.
            leb-true (nat_abs (get_or (at k).events i tick)) last_event
            (all_at in_range tick (at k).events (and_left (all in_range (at k).events) (ltb (at k).next n) (m.right k l)) i u));
        once = λ i j h l q.
            m.once i j (omega arith) (omega arith)
            (sym (ap (λ x. x.events) (edge_of_place r i (omega arith))) ∙ q ∙ ap (λ x. x.events) (edge_of_place r j (omega arith)));
        inside = λ k h.
            let l : k < r.count = omega arith in
            subst (λ x. x.next < n) (sym (edge_of_place r k l)) (ltb-true (at k).next n (and_right (all in_range (at k).events) (ltb (at k).next n) (m.right k l)));
      }
