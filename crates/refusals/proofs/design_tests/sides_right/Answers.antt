-- `design_tests::sides_right` meets its contract: side by side.
use mathlib.Core.Path.{◌∙◌}
use mathlib.Core.List.{[]}
use borrow.Author.Tests.{tests}
use Rattle.std.proofs.Common.{rules}
use Rattle.layout.specs.Sizes.{side_count}
use Rattle.layout.specs.Designs.{design, side}
use Rattle.layout.specs.Tests.{side_right}
use Rattle.layout.proofs.DesignBytes.{sides_length}
use Rattle.refusals.proofs.Ranges.{every_from_all, every_all}
use Rattle.refusals.proofs.design_tests.sides_right.Goals as goal

pub returns : goal.returns
returns c =
    let D = design c.args.s.now in
    every_from_all (λ i. side_right (side D i)) side_count _ _ _ c.all.ensures.ran (cc) (λ x b q k. search (rules, tests))
    ∙ every_all side_right [] D.sides side_count (sides_length c.args.s.now)
