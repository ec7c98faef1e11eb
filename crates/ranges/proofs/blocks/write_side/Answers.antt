-- `blocks::write_side` meets its contract: the states that are put at the front of the local bytes are those of the block.
use mathlib.Core.Path.{◌≡◌, sym, ap, ◌∙◌}
use Prim.Native.Nat.{◌*◌}
use native.Mathlib.Omega.{arith}
use lib.ListN.{length}
use Rattle.layout.specs.Sizes.{block_bytes, state_bytes}
use Rattle.layout.specs.Bytes.{part, put}
use Rattle.layout.specs.Blocks.{sealed}
use Rattle.layout.specs.Designs.{side_block}
use Rattle.layout.proofs.Sealed.{part_put}
use Rattle.ranges.specs.Entries.{new_side}
use Rattle.ranges.specs.Ranges.{states_to, ranged_block}
use Rattle.ranges.proofs.StatesPut.{length_states}
use Rattle.ranges.proofs.NewSides.{few_with}
use Rattle.ranges.proofs.blocks.write_side.Goals as goal

pub write_states-requires : goal.write_states-requires
write_states-requires c =
    let few = few_with c.args.d.now c.args.list.now c.requires.2 c.args.i c.requires.3 in
    let n = c.new_states-n.ensures.0 in
    (c.requires.3, omega (arith, n, few), omega (arith, n, few), c.requires.4)

pub returns : goal.returns
unfolding ranged_block
returns c =
    let a = c.args in
    let new = new_side a.d.now a.list.now a.i in
    let few = few_with a.d.now a.list.now c.requires.2 a.i c.requires.3 in
    let n = c.new_states-n.ensures.0 in
    let x = c.new_states-n.new.s in
    let front : part x 0 (state_bytes * length new) ≡ states_to new =
    ap (part x 0) (sym (length_states new))
    ∙ ap (λ l. part l 0 (length (states_to new))) c.new_states-n.ensures.1
    ∙ part_put (states_to new) _ 0 (omega (arith, length_states new, few)) in
    c.write_states.ensures
    ∙ ap (λ m. put a.res.now (block_bytes * a.i) (sealed (side_block a.i).kind m 0 (part x 0 (state_bytes * m)))) n
    ∙ ap (λ l. put a.res.now (block_bytes * a.i) (sealed (side_block a.i).kind (length new) 0 l)) front
