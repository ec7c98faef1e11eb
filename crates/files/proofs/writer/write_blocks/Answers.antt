-- `files::write_blocks` meets its contract. The invariant: the first k blocks are put.
use mathlib.Core.Path.{◌≡◌, sym, ap, ◌∙◌}
use mathlib.Core.List.{flatten}
use Prim.Native.Nat.{◌*◌, ◌≤◌}
use native.Mathlib.Omega.{arith}
use lib.ListN.{length}
use Rattle.layout.specs.Bytes.{put}
use Rattle.layout.specs.Converters.{records}
use Rattle.files.specs.Files.{blocks_for, written_block, written}
use Rattle.layout.specs.Tables.{table, table_from}
use Rattle.layout.proofs.Put.{put_nil}
use Rattle.refusals.proofs.Accepted.{Accepted, accepted}
use Rattle.files.proofs.AcceptedWrites.{write_accepted}
use Rattle.files.proofs.WrittenFile.{first_blocks, put_next_block}
use Rattle.files.proofs.writer.write_blocks.Goals as goal
use Rattle.files.proofs.writer.write_blocks.Goals.{After-blocks_for-k-end, Start}

-- what is accepted, and how many blocks it fills
taken : (c : Start) → Accepted c.args.converter.now
taken c = accepted c.args.converter.now (write_accepted c.args.converter.now (length c.args.blocks.now) c.requires).0

filled : (c : After-blocks_for-k-end) → c.blocks_for-k-end.result ≡ blocks_for (records c.args.converter.now)
filled c = c.blocks_for-k-end.ensures ∙ ap blocks_for c.count.ensures

-- there is room for them
room : (c : After-blocks_for-k-end) → 512 * c.blocks_for-k-end.result ≤ length c.args.blocks.now
room c =
    omega (arith, filled c, (write_accepted c.args.converter.now (length c.args.blocks.now) c.requires).1)

pub blocks_for-k-end-requires : goal.blocks_for-k-end-requires
blocks_for-k-end-requires c = omega (arith, c.count.ensures, (taken (goal.at.blocks_for-k-end-requires c).Start).at_most)

pub loop-k-init : goal.loop-k-init
unfolding table table_from flatten
loop-k-init c = sym (put_nil c.args.blocks.now 0 (omega arith))

pub write_block-requires : goal.write_block-requires
write_block-requires c = (
  (write_accepted c.args.converter.now (length c.args.blocks.now) c.requires).0,
  omega (arith, filled (goal.at.write_block-requires c).After-blocks_for-k-end),
  omega (arith, filled (goal.at.write_block-requires c).After-blocks_for-k-end, room (goal.at.write_block-requires c).After-blocks_for-k-end, c.loop-k.auto.blocks),
)

pub loop-k-preserved : goal.loop-k-preserved
loop-k-preserved c =
    c.write_block.ensures
    ∙ ap (λ l. put l (512 * c.loop-k.k) (written_block c.args.converter.now c.loop-k.k)) c.loop-k.invariant
    ∙ put_next_block c.args.converter.now (taken (goal.at.loop-k-preserved c).Start) c.args.blocks.now c.loop-k.k (omega (arith, filled (goal.at.loop-k-preserved c).After-blocks_for-k-end)) (omega (arith, room (goal.at.loop-k-preserved c).After-blocks_for-k-end))

pub returns : goal.returns
unfolding written
returns c =
    let e : c.loop-k.k ≡ blocks_for (records c.args.converter.now) = omega (arith, filled (goal.at.returns c).After-blocks_for-k-end) in
    c.loop-k.invariant ∙ ap (λ k. put c.args.blocks.now 0 (first_blocks c.args.converter.now k)) e
