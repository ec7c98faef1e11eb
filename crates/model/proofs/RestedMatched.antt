-- The converters that are matched to sides with the resting side behind them are those that are matched to the sides, with zeros added.
use mathlib.Core.Path.{◌≡◌, refl, sym, ap, subst, ◌∙◌}
use mathlib.Core.Logic.Iff
use mathlib.Core.Logic.{◌↔◌}
use mathlib.Core.List.{List, [], ◌∷◌, ◌++◌, Memᴰ as In}
use Prim.Native.Nat.{ℕ, ◌≤◌, ◌<◌}
use lib.ListN.{length, length-map}
use Rattle.model.specs.Events.{Event, duals, shows}
use Rattle.model.specs.Sides.{Side, input}
use Rattle.model.specs.Joined.{Names, zeros, kinds_of, JointMove}
use Rattle.model.specs.Converters.{Edge, Node, Converter, no_edge, no_node, node, edge, side_events, Duty, every, one_each, some, duty, Enabled, OneShowing, Fulfils, Obeys, Matched}
use Rattle.model.specs.Resting.{with_resting, with_tick, rested_edge, rested_node, rested}
use Rattle.model.proofs.Lists.{index_in, of_map, in_map, first_in, get_or_map, all_images}
use Rattle.model.proofs.Joint.{AllRegular, duals_duals}
use Rattle.model.proofs.NoneInput.{Follows, Once, input_more}
use Rattle.model.proofs.Resting.{zero_off, tick_off, zeros_rested, names_rested, joint_rested, rested_joint, of_joint_rested, every_joint_rested, duals_rested, shows_rested, kinds_rested}

-- ---- the transitions of a converter state
-- two lists are equal exactly where they are with a tick added
with_tick_too : (es fs es⁺ : List Event) → es⁺ ≡ with_tick es → (es ≡ fs) ↔ (es⁺ ≡ with_tick fs)
with_tick_too es fs es⁺ e = ((λ p. e ∙ ap with_tick p), (λ p. tick_off es fs (sym e ∙ p)))

module _ (n : Node) where
  count : length (rested_node n).edges ≡ length n.edges
  count = length-map n.edges rested_edge

  -- of one transition, its events, what it carries for the sides and what they show under it
  module _ (j : ℕ) (h : j < length n.edges) where
    edge_rested : edge (rested_node n) j ≡ rested_edge (edge n j)
    edge_rested = get_or_map rested_edge n.edges j no_edge no_edge h

    events_at : (es : List Event) → ((edge n j).events ≡ es) ↔ ((edge (rested_node n) j).events ≡ with_tick es)
    events_at es = with_tick_too (edge n j).events es (edge (rested_node n) j).events (rw edge_rested)

    carried_at : (es : List Event) → (side_events (edge n j) ≡ es) ↔ (side_events (edge (rested_node n) j) ≡ with_tick es)
    carried_at es = with_tick_too (side_events (edge n j)) es (side_events (edge (rested_node n) j)) (rw edge_rested (duals_rested (edge n j).events))

    shown_at : (xs : List Event) → (shows (side_events (edge n j)) ≡ xs) ↔ (shows (side_events (edge (rested_node n) j)) ≡ with_tick xs)
    shown_at xs =
        with_tick_too (shows (side_events (edge n j))) xs (shows (side_events (edge (rested_node n) j)))
        (rw (edge_rested, duals_rested) (shows_rested (side_events (edge n j))))

  once_rested : Once n ↔ Once (rested_node n)
  once_rested = (
    (λ o j k hj hk e.
        let ij : j < length n.edges = rw count at hj in
        let ik : k < length n.edges = rw count at hk in
        o j k ij ik ((events_at j ij (edge n k).events).1 (e ∙ (events_at k ik (edge n k).events).0 refl))),
    (λ o j k hj hk e. o j k (rw count hj) (rw count hk) ((events_at j hj (edge n k).events).0 e ∙ sym ((events_at k hk (edge n k).events).0 refl))),
  )

  enabled_rested : (es : List Event) → Enabled n es ↔ Enabled (rested_node n) (with_tick es)
  enabled_rested es = (
    (λ w. (w.0, rw count w.1, (carried_at w.0 w.1 es).0 w.2)),
    (λ w. let h : w.0 < length n.edges = rw count at w.1 in (w.0, h, (carried_at w.0 h es).1 w.2)),
  )

  one_showing_rested : (xs : List Event) → OneShowing n xs ↔ OneShowing (rested_node n) (with_tick xs)
  one_showing_rested xs = (
    (λ w.
        (w.0, rw count w.1, (shown_at w.0 w.1 xs).0 w.2, λ k h g. let i : k < length n.edges = rw count at h in w.3 k i ((shown_at k i xs).1 g))),
    (λ w.
        let h : w.0 < length n.edges = rw count at w.1 in
        (w.0, h, (shown_at w.0 h xs).1 w.2, λ k i g. w.3 k (rw count i) ((shown_at k i xs).0 g))),
  )

  -- what each duty asks
  fulfils_rested : (Ss : List Side) (d : Duty) → Fulfils d Ss n ↔ Fulfils d (with_resting Ss) (rested_node n)
  fulfils_rested Ss every = every_joint_rested Ss n.names (Enabled n) (Enabled (rested_node n)) enabled_rested
  fulfils_rested Ss one_each =
      every_joint_rested Ss n.names (λ es. OneShowing n (shows es)) (λ es. OneShowing (rested_node n) (shows es)) (λ es. rw (shows_rested es) (one_showing_rested (shows es)))
  fulfils_rested Ss some = rw count Iff.rfl

-- ---- a converter
-- a transition of n carries a joint move to where the next converter state says
abbrev Leads : List Side → Converter → Node → Edge → Type 0
Leads Ss C n e = (e.next < length C) × JointMove Ss n.names (side_events e) (node C e.next).names

module _ (Ss : List Side) (reg : AllRegular Ss) (C : Converter) where
  size : length (rested C) ≡ length C
  size = length-map C rested_node

  node_rested : (c : ℕ) → c < length C → node (rested C) c ≡ rested_node (node C c)
  node_rested c h = get_or_map rested_node C c no_node no_node h

  module _ (n : Node) where
    -- a transition leads where it led
    leads_rested : (e : Edge) → Leads Ss C n e ↔ Leads (with_resting Ss) (rested C) (rested_node n) (rested_edge e)
    leads_rested e = (
      (λ w. (rw size w.0, rw (node_rested e.next w.0, duals_rested e.events) (joint_rested Ss n.names (side_events e) (node C e.next).names w.1))),
      (λ w.
          let h : e.next < length C = rw size at w.0 in
          (h, rested_joint Ss n.names (side_events e) (node C e.next).names (rw (node_rested e.next h, duals_rested e.events) at w.1))),
    )

    -- the duty of the kinds is what it was
    duty_rested : Names Ss n.names → Once n → Follows Ss n
        → Fulfils (duty (kinds_of Ss n.names)) Ss n ↔ Fulfils (duty (kinds_of (with_resting Ss) (rested_node n).names)) (with_resting Ss) (rested_node n)
    duty_rested hs once follows =
        rw (kinds_rested Ss n.names hs)
        (Iff.trans (input_more Ss reg n hs once follows) (fulfils_rested n Ss (duty (kinds_of Ss n.names ++ (input ∷ [])))))

    obeys_rested : Obeys Ss C n ↔ Obeys (with_resting Ss) (rested C) (rested_node n)
    obeys_rested = (
      (λ ob. record {
        has_states = (names_rested Ss n.names).0 ob.has_states;
        some_edge = rw (count n) ob.some_edge;
        once = (once_rested n).0 ob.once;
        follows = λ e i.
            let w = of_map rested_edge e n.edges i in
            subst (Leads (with_resting Ss) (rested C) (rested_node n)) w.2 ((leads_rested w.0).0 (ob.follows w.0 w.1));
        does_duty = (duty_rested ob.has_states ob.once (λ e i. ((node C e.next).names, (ob.follows e i).1))).0 ob.does_duty;
      }),
      (λ ob.
          let hs = (names_rested Ss n.names).1 ob.has_states in
          let once = (once_rested n).1 ob.once in
          let follows : (e : Edge) → In e n.edges → Leads Ss C n e = λ e i. (leads_rested e).1 (ob.follows (rested_edge e) (in_map rested_edge i)) in
          record {
            has_states = hs;
            some_edge = rw (count n) at ob.some_edge;
            once = once;
            follows = follows;
            does_duty = (duty_rested hs once (λ e i. ((node C e.next).names, (follows e i).1))).1 ob.does_duty;
          }),
    )

  -- Matched to the sides exactly where matched, with zeros added, to the sides and the resting one.
  pub matched_rested : Matched Ss C ↔ Matched (with_resting Ss) (rested C)
  matched_rested = (
    (λ m. record {
      some_node = rw size m.some_node;
      starts = rw (node_rested 0 m.some_node, m.starts) (sym (zeros_rested Ss));
      each = λ c h. let i : c < length C = rw size at h in rw (node_rested c i) ((obeys_rested (node C c)).0 (m.each c i));
    }),
    (λ m.
        let some_node : 1 ≤ length C = rw size at m.some_node in
        record {
          some_node = some_node;
          starts = zero_off (node C 0).names (zeros Ss) (rw (node_rested 0 some_node, zeros_rested Ss) at m.starts);
          each = λ c h. (obeys_rested (node C c)).1 (rw (node_rested c h) at (m.each c (rw size h)));
        }),
  )

-- ---- every converter that is matched with the resting side has those zeros
module _ (Ss : List Side) where
  -- a transition that carries a joint move has the tick behind
  edge_is_rested : (ss : List ℕ) (e : Edge) (ts : List ℕ) → JointMove (with_resting Ss) ss (side_events e) ts → (f : Edge) × (e ≡ rested_edge f)
  edge_is_rested ss e ts a =
      let w = of_joint_rested Ss ss (side_events e) ts a in
      let events : e.events ≡ with_tick (duals w.events) = sym (duals_duals e.events) ∙ ap duals w.events_are ∙ duals_rested w.events in
      (record { events = duals w.events; next = e.next }, λ i. record { events = events i; next = e.next })

  -- a node that obeys has state 0 behind, and such transitions
  node_is_rested : (C : Converter) (n : Node) → Obeys (with_resting Ss) C n → (m : Node) × (n ≡ rested_node m)
  node_is_rested C n ob =
      let e = first_in n.edges ob.some_edge in
      let w = of_joint_rested Ss n.names (side_events e.0) (node C e.0.next).names (ob.follows e.0 e.1).1 in
      let l = all_images rested_edge n.edges (λ f i. edge_is_rested n.names f (node C f.next).names (ob.follows f i).1) in
      (record { names = w.names; edges = l.0 }, λ i. record { names = w.names_are i; edges = l.1 i })

  pub matched_is_rested : (C : Converter) → Matched (with_resting Ss) C → (D : Converter) × (C ≡ rested D)
  matched_is_rested C m =
      all_images rested_node C (λ n i. let k = index_in no_node i in node_is_rested C n (rw k.2 at (m.each k.0 k.1)))
