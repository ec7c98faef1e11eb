-- `design_tests::counts_right` meets its contract: block by block.
use mathlib.Core.Path.{◌∙◌}
use Prim.Native.Nat.{◌+◌}
use borrow.Author.Tests.{tests}
use Rattle.std.proofs.Common.{rules}
use Rattle.layout.specs.Sizes.{other_blocks}
use Rattle.layout.specs.Blocks.{kernel, design_blocks}
use Rattle.layout.specs.Designs.{held}
use Rattle.refusals.specs.Counted.{block}
use Rattle.refusals.specs.Refusals.{count_right}
use Rattle.refusals.proofs.DesignBlocks.{blocks_long, block_at}
use Rattle.refusals.proofs.Ranges.{every_from_all, every_all}
use Rattle.refusals.proofs.design_tests.counts_right.Goals as goal

pub returns : goal.returns
returns c =
    let s = c.args.s.now in
    let few = c.requires.at_most in
    every_from_all (λ i. count_right s (block (held s) i)) (held s + other_blocks) _ _ _ c.all.ensures.ran (cc) (λ x b q k. search (rules, tests, block_at (held s) few))
    ∙ every_all (count_right s) kernel (design_blocks (held s)) (held s + other_blocks) (blocks_long (held s) few)
