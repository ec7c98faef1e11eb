-- `converters::node_right` meets its contract.
use mathlib.Core.Bool.{◌&&◌}
use native.Mathlib.Omega.{arith}
use borrow.Author.Tests.{tests}
use Rattle.std.proofs.Common.{rules}
use Rattle.std.proofs.lemmas.Bool.Decides.{nat_tests}
use Rattle.refusals.proofs.NodeRecords.{linked, fresh, node_by_places}
use Rattle.refusals.proofs.Ranges.{every_from_all}
use Rattle.refusals.proofs.converters.node_right.Goals as goal
use Rattle.refusals.proofs.converters.node_right.Goals.{then-names_right, else-names_right}

pub returns-then-contains : goal.returns-then-contains
returns-then-contains c =
    let a = c.args in
    let each = every_from_all (λ k. linked a.n a.r k && fresh a.n a.r k) c.from-count.result _ _ _ c.all.ensures.ran (cc) (λ x b q k. search (rules, tests)) in
    elim c.if-names_right.branch [
      | then-names_right w ↦ grind (arith, nat_tests, node_by_places a.n a.r, each, w.contains.ensures.cases)
      | else-names_right w ↦ grind (arith, nat_tests)
    ]

pub returns-else-contains : goal.returns-else-contains
returns-else-contains c =
    let a = c.args in
    elim c.if-names_right.branch [
      | then-names_right w ↦ grind (arith, nat_tests, node_by_places a.n a.r, w.contains.ensures.cases)
      | else-names_right w ↦ grind (arith, nat_tests, node_by_places a.n a.r)
    ]
