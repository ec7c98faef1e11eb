-- `state_tests::state_right` meets its contract.
use native.Mathlib.Omega.{arith}
use borrow.Author.Tests.{tests}
use Rattle.std.proofs.Common.{rules}
use Rattle.std.proofs.lemmas.Bool.Decides.{nat_tests}
use Rattle.refusals.proofs.Ranges.{every_from_all}
use Rattle.refusals.proofs.StateRecords.{placed, placed_right}
use Rattle.refusals.proofs.state_tests.state_right.Goals as goal

pub returns-then-contains : goal.returns-then-contains
returns-then-contains c =
    let a = c.args in
    let placed_each = every_from_all (placed a.n a.q) c.from-count.result _ _ _ c.all.ensures.ran (cc) (λ x b q k. search (rules, tests)) in
    grind (arith, nat_tests, placed_right a.n a.q, placed_each, c.contains.ensures.cases)

pub returns-else-contains : goal.returns-else-contains
returns-else-contains c = grind (arith, nat_tests, placed_right c.args.n c.args.q, c.contains.ensures.cases)
