-- `design_tests::each_rule_right` meets its contract: rule by rule.
use mathlib.Core.Path.{sym, ◌∙◌}
use borrow.Author.Tests.{tests}
use lib.Dec.{ltb}
use lib.ListN.{length, get_or}
use mathlib.Core.Path.{refl}
use Rattle.std.proofs.Common.{rules}
use Rattle.layout.specs.Designs.{design}
use Rattle.layout.specs.Tests.{rules_right}
use Rattle.refusals.proofs.Ranges.{every_from_all, every_all}
use Rattle.refusals.proofs.design_tests.each_rule_right.Goals as goal

pub returns : goal.returns
unfolding rules_right
returns c =
    let rs = (design c.args.s.now).rules in
    let m = c.formula_count-formulas.result in
    rw (sym c.formula_count-formulas.ensures)
    (every_from_all (λ k. ltb (get_or rs k 0) m) (length rs) _ _ _ c.all.ensures.ran (cc) (λ x b q k. search (rules, tests))
    ∙ every_all (λ r. ltb r m) 0 rs (length rs) refl)
