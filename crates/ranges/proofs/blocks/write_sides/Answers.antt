-- `blocks::write_sides` meets its contract. The invariant: the blocks of the sides before i are put.
use mathlib.Core.Path.{sym, ap, ◌∙◌}
use mathlib.Core.List.{flatten}
use Prim.Native.Nat.{◌*◌, ◌<◌}
use native.Mathlib.Omega.{arith}
use Rattle.layout.specs.Sizes.{side_count, block_bytes}
use Rattle.layout.specs.Tables.{table, table_from}
use Rattle.layout.specs.Bytes.{put}
use Rattle.layout.specs.Designs.{Whole}
use Rattle.layout.proofs.Pieces.{pieces_more, length_first}
use Rattle.layout.proofs.Put.{put_nil, put_behind}
use Rattle.refusals.proofs.WellFormed.{accepted_counts}
use Rattle.ranges.specs.Ranges.{ranged_block}
use Rattle.ranges.proofs.NewSides.{block_long}
use Rattle.ranges.proofs.blocks.write_sides.Goals as goal
use Rattle.ranges.proofs.blocks.write_sides.Goals.{Start}

-- four blocks or five
whole : (c : Start) → Whole c.args.d.now
whole c = (accepted_counts c.args.d.now c.requires.0).whole

pub held-i-end-requires : goal.held-i-end-requires
held-i-end-requires c = whole (goal.at.held-i-end-requires c).Start

pub loop-i-init : goal.loop-i-init
unfolding table table_from flatten
loop-i-init c = sym (put_nil _ 0 (omega arith))

pub write_side-requires : goal.write_side-requires
write_side-requires c =
    let w = whole (goal.at.write_side-requires c).Start in
    let n = c.held-i-end.ensures in
    (c.requires.0, c.requires.1, c.requires.2, omega (arith, n, w.at_most), omega (arith, n, w.long, c.requires.3, c.loop-i.auto.res))

pub loop-i-preserved : goal.loop-i-preserved
loop-i-preserved c =
    let l = c.loop-i in
    let a = c.args in
    let w = whole (goal.at.loop-i-preserved c).Start in
    let n = c.held-i-end.ensures in
    let f = ranged_block a.d.now a.list.now in
    let sized = block_long a.d.now a.list.now c.requires.2 in
    let few : l.i < side_count = omega (arith, n, w.at_most) in
    let long = length_first f block_bytes l.i (λ k h. sized k (omega arith)) in
    c.write_side.ensures
    ∙ ap (λ b. put b (block_bytes * l.i) (f l.i)) l.invariant
    ∙ ap (λ m. put (put a.res.now 0 (flatten (table l.i f))) m (f l.i)) (omega arith)
    ∙ put_behind (flatten (table l.i f)) (f l.i) a.res.now 0 (block_bytes * l.i) long (omega (arith, sized l.i few, n, w.long, c.requires.3))
    ∙ ap (put a.res.now 0) (sym (pieces_more f l.i))
