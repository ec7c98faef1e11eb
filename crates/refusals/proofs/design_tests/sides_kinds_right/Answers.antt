-- `design_tests::sides_kinds_right` meets its contract: side by side.
use mathlib.Core.Path.{◌∙◌}
use mathlib.Core.List.{[]}
use borrow.Author.Tests.{tests}
use Rattle.std.proofs.Common.{rules}
use Rattle.std.proofs.lemmas.Iterator.{serves_from_Range}
use Rattle.layout.specs.Sizes.{side_count}
use Rattle.layout.specs.Designs.{design, side}
use Rattle.layout.specs.Tests.{kinds_right}
use Rattle.layout.proofs.DesignBytes.{sides_length}
use Rattle.refusals.proofs.StateTests.{side_passes}
use Rattle.refusals.proofs.Ranges.{every_from_all, every_all}
use Rattle.refusals.proofs.design_tests.sides_kinds_right.Goals as goal

pub all-requires-clause-callable : goal.all-requires-clause-callable
all-requires-clause-callable c =
    let right = side_passes c.args.s.now c.requires.1 in
    serves_from_Range (λ x q k. search rules) (λ x a h. search (rules, right))

pub returns : goal.returns
returns c =
    let D = design c.args.s.now in
    every_from_all (λ i. kinds_right (side D i)) side_count _ _ _ c.all.ensures.ran (cc) (λ x b q k. search (rules, tests))
    ∙ every_all kinds_right [] D.sides side_count (sides_length c.args.s.now)
