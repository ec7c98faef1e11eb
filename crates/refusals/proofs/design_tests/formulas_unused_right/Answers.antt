-- `design_tests::formulas_unused_right` meets its contract: record by record, and the bytes behind.
use mathlib.Core.Path.{◌≡◌}
use Prim.Native.Nat.{◌+◌, ◌*◌}
use native.Mathlib.Omega.{arith}
use borrow.Author.Tests.{tests}
use Rattle.std.proofs.Common.{rules}
use Rattle.std.proofs.lemmas.Bool.Decides.{nat_tests}
use Rattle.layout.specs.Sizes.{records_in_block}
use Rattle.layout.specs.Bytes.{all_zero}
use Rattle.layout.specs.Unused.{formula_record, size, unused}
use Rattle.refusals.proofs.DesignUnused.{records_zero, formulas_unused}
use Rattle.refusals.proofs.Ranges.{every_from_all}
use Rattle.refusals.proofs.design_tests.formulas_unused_right.Goals as goal
use Rattle.refusals.proofs.design_tests.formulas_unused_right.Goals.{After-all}

-- the test of the records
each : (c : After-all) → c.all.result ≡ records_zero c.args.s.now formula_record (c.formulas_at-at.result) c.formula_count-n.result
each c =
    every_from_all (λ k. all_zero (unused formula_record c.args.s.now (c.formulas_at-at.result + records_in_block + size formula_record * k))) c.formula_count-n.result _ _ _ c.all.ensures.ran (cc) (λ x b q k. search (rules, tests))

pub returns-then-all : goal.returns-then-all
returns-then-all c = grind (arith, nat_tests, formulas_unused c.args.s.now, each (goal.at.returns-then-all c).After-all)

pub returns-else-all : goal.returns-else-all
returns-else-all c = grind (arith, nat_tests, formulas_unused c.args.s.now, each (goal.at.returns-else-all c).After-all)
