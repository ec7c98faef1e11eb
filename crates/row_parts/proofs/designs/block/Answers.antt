-- `designs::block` meets its contract: the block of all the records that are given.
use mathlib.Core.Path.{ap, ◌∙◌}
use Prim.Native.Nat.{◌/◌}
use lib.ListN.{length}
use lib.Seq.{take-length}
use Rattle.layout.specs.Bytes.{put}
use Rattle.layout.specs.Blocks.{sealed}
use Rattle.row_parts.proofs.designs.block.Goals as goal

pub returns : goal.returns
returns c =
    let a = c.args in
    c.write.ensures ∙ ap (λ rs. put a.s.now a.at (sealed a.kind (length a.records.now / a.size) 0 rs)) (take-length a.records.now)
