-- `tests::sides_fit` meets its contract.
use Rattle.std.proofs.Common.{rules}
use borrow.Author.Tests.{tests}
use lib.Dec.{leb}
use lib.ListN.{length}
use Rattle.layout.specs.Sizes.{side_count, most_states}
use Rattle.ranges.specs.Entries.{new_side, sides_fit}
use Rattle.ranges.proofs.EachNumber.{every_from_all}
use Rattle.ranges.proofs.tests.sides_fit.Goals as goal

pub returns : goal.returns
unfolding sides_fit
returns c =
    every_from_all (λ i. leb (length (new_side c.args.d.now c.args.list.now i)) most_states) side_count _ _ _ c.all.ensures.ran (λ x b q k. search (rules, tests))
