-- `design_tests::sides_unused_right` meets its contract: side by side.
use mathlib.Core.Path.{sym, ap, ◌∙◌}
use borrow.Author.Tests.{tests}
use lib.ListN.{take}
use lib.Seq.{length-take-le, get_or-take}
use Rattle.std.proofs.Common.{rules}
use Rattle.layout.specs.Blocks.{kernel, side_blocks}
use Rattle.layout.specs.Designs.{held, side_block}
use Rattle.refusals.specs.Refusals.{unused_right}
use Rattle.refusals.proofs.Ranges.{every_from_all, every_cong, every_all}
use Rattle.refusals.proofs.design_tests.sides_unused_right.Goals as goal

pub returns : goal.returns
returns c =
    let s = c.args.s.now in
    let n = held s in
    let p = unused_right s in
    every_from_all (λ i. p (side_block i)) n _ _ _ c.all.ensures.ran (cc) (λ x b q k. search (rules, tests))
    ∙ every_cong _ _ n (λ i h. ap p (sym (get_or-take n side_blocks i kernel h)))
    ∙ every_all p kernel (take n side_blocks) n (length-take-le n side_blocks c.requires.whole.at_most)
