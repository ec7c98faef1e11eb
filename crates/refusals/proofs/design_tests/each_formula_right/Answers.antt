-- `design_tests::each_formula_right` meets its contract: formula by formula.
use mathlib.Core.Path.{sym, ◌∙◌}
use borrow.Author.Tests.{tests}
use lib.ListN.{length}
use Rattle.std.proofs.Common.{rules}
use Rattle.layout.specs.Designs.{design}
use Rattle.refusals.proofs.DesignFormulas.{passes, formulas_pass}
use Rattle.refusals.proofs.Ranges.{every_from_all}
use Rattle.refusals.proofs.design_tests.each_formula_right.Goals as goal

pub returns : goal.returns
returns c =
    let s = c.args.s.now in
    every_from_all (passes s) (length (design s).forms) _ _ _ c.all.ensures.ran (cc) (λ x b q k. search (rules, tests)) ∙ sym (formulas_pass s)
