-- Refusal 11, of one converter state: `node_right` is the test of `WellFormedNode`, which says it by transitions and events.
use Rattle.std.proofs.Common.{◌≡◌, ℕ, ◌<◌, ◌≤◌, Bool, true, false, ◌&&◌, T, ltb, leb, length, get_or, nat_abs, sym, le→leb, ltb→lt, lt→ltb, leb→le}
use Rattle.model.specs.Events.{tick, InRange}
use Rattle.model.specs.Converters.{Node, edge}
use Rattle.model.specs.Judged.{all, same_events}
use Rattle.model.proofs.Bools.{T_true, T_false, and_both, both_and}
use Rattle.model.proofs.JointMoves.{same_events_eq, eq_same_events}
use Rattle.layout.specs.Sizes.{most_states, place_count, last_event}
use Rattle.layout.specs.Tables.{every, distinct}
use Rattle.layout.specs.Tests.{in_range, node_right}
use Rattle.layout.proofs.Tables.{true_T, each_every, every_each, all_true, all_at, distinct_once, once_distinct}

-- what 11 asks of a converter state, among n records
pub record WellFormedNode (n : ℕ) (d : Node) : Type 0 where
  pub names_below : (i : ℕ) → i < length d.names → get_or d.names i 0 < most_states
  pub some_edge : 1 ≤ length d.edges
  pub at_most_eight : length d.edges ≤ place_count
  pub in_range_at : (k : ℕ) → k < length d.edges → (i : ℕ) → i < length (edge d k).events → InRange (get_or (edge d k).events i tick)
  pub once : (j k : ℕ) → j < length d.edges → k < length d.edges → (edge d j).events ≡ (edge d k).events → j ≡ k
  pub inside : (k : ℕ) → k < length d.edges → (edge d k).next < n

module _ (n : ℕ) (d : Node) where
  abbrev m : ℕ
  m = length d.edges

  -- the tests
  abbrev named : Bool
  named = all (λ s. ltb s most_states) d.names

  abbrev ranged : Bool
  ranged = every m (λ k. all in_range (edge d k).events)

  abbrev same : ℕ → ℕ → Bool
  same j k = same_events (edge d j).events (edge d k).events

  abbrev linked : Bool
  linked = every m (λ k. ltb (edge d k).next n)

  swap : (j k : ℕ) → T (same j k) → T (same k j)
  swap j k t = eq_same_events (edge d k).events (edge d j).events (sym (same_events_eq (edge d j).events (edge d k).events t))

  pub well_formed : node_right n d ≡ true → WellFormedNode n d
  unfolding node_right
  well_formed e =
      let u = and_both (named && leb 1 m && leb m place_count && ranged && distinct m same) linked (true_T (node_right n d) e) in
      let v = and_both (named && leb 1 m && leb m place_count && ranged) (distinct m same) u.0 in
      let w = and_both (named && leb 1 m && leb m place_count) ranged v.0 in
      let x = and_both (named && leb 1 m) (leb m place_count) w.0 in
      let y = and_both named (leb 1 m) x.0 in
      record {
        names_below = λ i h. ltb→lt (get_or d.names i 0) most_states (true_T _ (all_at (λ s. ltb s most_states) 0 d.names (T_true named y.0) i h));
        some_edge = leb→le 1 m y.1;
        at_most_eight = leb→le m place_count x.1;
        in_range_at = λ k h i l.
            leb→le (nat_abs (get_or (edge d k).events i tick)) last_event
            (true_T _ (all_at in_range tick (edge d k).events (T_true (all in_range (edge d k).events) (every_each (λ j. all in_range (edge d j).events) m w.1 k h)) i l));
        once = λ j k h l q. distinct_once same swap m v.1 j k h l (eq_same_events (edge d j).events (edge d k).events q);
        inside = λ k h. ltb→lt (edge d k).next n (every_each (λ j. ltb (edge d j).next n) m u.1 k h);
      }

  pub node_passes : WellFormedNode n d → node_right n d ≡ true
  unfolding node_right
  node_passes w =
      T_true (node_right n d)
      (both_and (named && leb 1 m && leb m place_count && ranged && distinct m same) linked
      (both_and (named && leb 1 m && leb m place_count && ranged) (distinct m same)
      (both_and (named && leb 1 m && leb m place_count) ranged
      (both_and (named && leb 1 m) (leb m place_count)
      (both_and named (leb 1 m)
      (true_T named (all_true (λ s. ltb s most_states) 0 d.names (λ i h. T_true (ltb (get_or d.names i 0) most_states) (lt→ltb (get_or d.names i 0) most_states (w.names_below i h)))))
      (le→leb 1 m w.some_edge))
      (le→leb m place_count w.at_most_eight))
      (each_every (λ k. all in_range (edge d k).events) m (λ k h.
      true_T (all in_range (edge d k).events) (all_true in_range tick (edge d k).events (λ i l.
      T_true (in_range (get_or (edge d k).events i tick)) (le→leb (nat_abs (get_or (edge d k).events i tick)) last_event (w.in_range_at k h i l)))))))
      (once_distinct same swap m (λ j k h l t. w.once j k h l (same_events_eq (edge d j).events (edge d k).events t))))
      (each_every (λ k. ltb (edge d k).next n) m (λ k h. lt→ltb (edge d k).next n (w.inside k h))))

  -- a state that isn't well formed fails
  pub node_fails : (WellFormedNode n d → ⊥) → node_right n d ≡ false
  node_fails f = T_false (node_right n d) (λ t. f (well_formed (T_true (node_right n d) t)))
