-- `take_first` meets its contract. The invariant: the first transition that fits is the first of those behind the k that were tried.
use mathlib.Core.Path.{◌≡◌, refl, sym, ap, ◌∙◌}
use Prim.Native.Nat.{ℕ, ◌<◌}
use native.Mathlib.Omega.{arith}
use borrow.Author.Rules.{rules}
use lib.ListN.{length, get_or}
use mir.Syntax.{w8}
use mir.Val.{to_z, of_z}
use Rattle.model.specs.Events.{Event, tick}
use Rattle.model.specs.Converters.{Edge, Node, node, edge, side_events}
use Rattle.model.specs.Runs.{all_fit}
use Rattle.layout.specs.Sizes.{place_count}
use Rattle.layout.specs.Converters.{records, converter}
use Rattle.layout.proofs.Nodes.{WellFormedNode}
use Rattle.refusals.specs.Answered.{done}
use Rattle.refusals.proofs.Accepted.{events_length, right_well_formed}
use Rattle.runner.specs.Ticks.{Ticked, taken}
use Rattle.runner.proofs.FirstFit.{fits_here, fits_later, fits_nowhere}
use Rattle.runner.proofs.take_first.Goals as goal
use Rattle.runner.proofs.take_first.Goals.{After-duals-events, After-fits_events, In-loop-k, Start}

-- as the machine reads an event back
abbrev again : Event → Event
again x = to_z w8 (of_z w8 x)

-- record c as a converter state
abbrev here : Start → Node
here c = node (converter c.args.s.now) c.args.c

formed : (c : Start) → WellFormedNode (records c.args.s.now) (here c)
formed c = right_well_formed c.args.s.now c.args.c c.requires.0 c.requires.1

abbrev tried : In-loop-k → Edge
tried c = edge (node (converter c.args.s.now) c.args.c) c.loop-k.k

-- it is there
there : (c : In-loop-k) → c.loop-k.k < length (node (converter c.args.s.now) c.args.c).edges
there c = omega (arith, c.edge_count-k-end.ensures)

placed : (c : In-loop-k) → c.loop-k.k < place_count
placed c = omega (arith, there c, (right_well_formed c.args.s.now c.args.c c.requires.0 c.requires.1).at_most_eight)

pub loop-k-init : goal.loop-k-init
loop-k-init c = refl

pub edge_at-t-requires : goal.edge_at-t-requires
edge_at-t-requires c = (c.requires.0, there (goal.at.edge_at-t-requires c).In-loop-k, placed (goal.at.edge_at-t-requires c).In-loop-k)

pub duals-events-requires : goal.duals-events-requires
duals-events-requires c = λ i h.
    let k = c.loop-k.k in
    let one_each = events_length c.args.s.now c.args.c k c.requires.0 (there (goal.at.duals-events-requires c).In-loop-k) (placed (goal.at.duals-events-requires c).In-loop-k) in
    rw (ap (λ (x : Edge). x.events) c.edge_at-t.ensures) ((formed (goal.at.duals-events-requires c).Start).in_range_at k (there (goal.at.duals-events-requires c).In-loop-k) i (omega arith))

-- the side events that are made of its events
made : (c : After-duals-events) → c.duals-events.result ≡ side_events (edge (node (converter c.args.s.now) c.args.c) c.loop-k.k)
made c = c.duals-events.ensures ∙ ap side_events c.edge_at-t.ensures

asked : (c : After-fits_events) → c.fits_events.result ≡ all_fit c.args.shown (side_events (edge (node (converter c.args.s.now) c.args.c) c.loop-k.k))
asked c = c.fits_events.ensures ∙ ap (all_fit c.args.shown) (c.duals-events.ensures ∙ ap side_events c.edge_at-t.ensures)

-- done, at a record and with these events delivered
abbrev done_at : ℕ → Event → Event → Event → Ticked
done_at n x y z = record { answer = done tt; runner = record { «record» = n; first = x; second = y; third = z } }

done_by : {m n : ℕ} {x x' y y' z z' : Event} → m ≡ n → x ≡ x' → y ≡ y' → z ≡ z' → done_at m x y z ≡ done_at n x' y' z'
done_by e f g h = λ i. done_at (e i) (f i) (g i) (h i)

pub returns-then-fits_events : goal.returns-then-fits_events
unfolding taken
returns-then-fits_events c =
    let l = c.loop-k in
    let p = l.invariant ∙ fits_here c.args.shown (here (goal.at.returns-then-fits_events c).Start).edges l.k (there (goal.at.returns-then-fits_events c).In-loop-k) (sym (asked (goal.at.returns-then-fits_events c).After-fits_events) ∙ c.if-fits_events.true) in
    let q = c.duals-events.result in
    let m = made (goal.at.returns-then-fits_events c).After-duals-events in
    let next = ap (λ x. x.next) c.edge_at-t.ensures in
    let first : again (get_or q 0 tick) ≡ get_or q 0 tick = search rules in
    let second : again (get_or q 1 tick) ≡ get_or q 1 tick = search rules in
    let third : again (get_or q 2 tick) ≡ get_or q 2 tick = search rules in
    done_by (grind (arith, next)) first second third
    ∙ ap (λ es. done_at (tried (goal.at.returns-then-fits_events c).In-loop-k).next (get_or es 0 tick) (get_or es 1 tick) (get_or es 2 tick)) m
    ∙ sym (ap (taken c.args.runner) p)

pub loop-k-preserved : goal.loop-k-preserved
loop-k-preserved c =
    let l = c.loop-k in
    l.invariant ∙ fits_later c.args.shown (here (goal.at.loop-k-preserved c).Start).edges l.k (there (goal.at.loop-k-preserved c).In-loop-k) (sym (asked (goal.at.loop-k-preserved c).After-fits_events) ∙ c.if-fits_events.false)

pub returns : goal.returns
unfolding taken
returns c =
    let l = c.loop-k in
    let e : l.k ≡ length (here (goal.at.returns c).Start).edges = omega (arith, c.edge_count-k-end.ensures) in
    sym (ap (taken c.args.runner) (l.invariant ∙ fits_nowhere c.args.shown (here (goal.at.returns c).Start).edges l.k e))
