-- `blocks::old_states` meets its contract. The invariant: the first k states are put.
use mathlib.Core.Path.{◌≡◌, sym, ap, ap₂, ◌∙◌}
use mathlib.Core.List.{[], ◌∷◌, ◌++◌, flatten}
use Prim.Native.Nat.{◌+◌, ◌*◌, ◌<◌}
use native.Mathlib.Numerals.{add-one}
use native.Mathlib.Omega.{arith}
use lib.ListN.{length, take}
use lib.Seq.{take-suc, length-take-le}
use Rattle.model.specs.Sides.{Side, state, no_state}
use Rattle.layout.specs.Sizes.{state_bytes, most_states}
use Rattle.layout.specs.Bytes.{put}
use Rattle.layout.specs.States.{state_of, state_to}
use Rattle.layout.specs.Designs.{design, side}
use Rattle.layout.proofs.DesignBytes.{stored_state_is}
use Rattle.layout.proofs.Put.{put_nil}
use Rattle.refusals.proofs.WellFormed.{accepted_counts}
use Rattle.ranges.specs.Ranges.{states_to}
use Rattle.ranges.proofs.StatesPut.{states_more}
use Rattle.ranges.proofs.blocks.old_states.Goals as goal
use Rattle.ranges.proofs.blocks.old_states.Goals.{At-loop-k, In-loop-k}

pub state_count-k-end-requires : goal.state_count-k-end-requires
state_count-k-end-requires c = ((accepted_counts c.args.d.now c.requires.0).whole, c.requires.1)

pub loop-k-init : goal.loop-k-init
unfolding states_to flatten
loop-k-init c = sym (put_nil _ 0 (omega arith))

abbrev old_side : At-loop-k → Side
old_side c = side (design c.args.d.now) c.args.i

-- its state is there, and is one of sixteen
there : (c : In-loop-k) → (c.loop-k.k < length (side (design c.args.d.now) c.args.i)) × (c.loop-k.k < most_states)
there c =
    let h : c.loop-k.k < length (side (design c.args.d.now) c.args.i) = omega (arith, c.state_count-k-end.ensures) in
    (h, omega (arith, (accepted_counts c.args.d.now c.requires.0).few_states c.args.i c.requires.1))

pub overflow_mul-k : goal.overflow_mul-k
overflow_mul-k c = record { fits = omega (arith, (there (goal.at.overflow_mul-k c).In-loop-k).1) }

pub side_state-requires : goal.side_state-requires
side_state-requires c =
    ((accepted_counts c.args.d.now c.requires.0).whole, c.requires.1, (there (goal.at.side_state-requires c).In-loop-k).1)

pub write_state-requires : goal.write_state-requires
write_state-requires c =
    omega (arith, (there (goal.at.write_state-requires c).In-loop-k).1, c.loop-k.auto.s, c.requires.2)

pub loop-k-preserved : goal.loop-k-preserved
loop-k-preserved c =
    let l = c.loop-k in
    let S = old_side (goal.at.loop-k-preserved c).At-loop-k in
    let h = there (goal.at.loop-k-preserved c).In-loop-k in
    let next : take (l.k + 1) S ≡ take l.k S ++ (state S l.k ∷ []) = ap (λ n. take n S) (add-one l.k) ∙ take-suc S l.k no_state h.0 in
    c.write_state.ensures
    ∙ ap₂ (λ b q. put b (state_bytes * l.k) (state_to q)) l.invariant
    (ap state_of c.side_state.ensures ∙ stored_state_is c.args.d.now c.args.i l.k c.requires.1 h.0)
    ∙ ap (λ i. put (put c.args.s.now 0 (states_to (take l.k S))) i (state_to (state S l.k))) (omega arith)
    ∙ states_more c.args.s.now 0 l.k (take l.k S) (state S l.k) (length-take-le l.k S (omega (arith, h.0))) (omega (arith, h.1, c.requires.2))
    ∙ ap (λ X. put c.args.s.now 0 (states_to X)) (sym next)
