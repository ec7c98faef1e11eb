-- `design_tests::rules_unused_right` meets its contract: a rule has no unused byte.
use mathlib.Core.Path.{sym, ap₂, ◌∙◌}
use Rattle.refusals.proofs.DesignUnused.{behind_zero, rules_unused}
use Rattle.refusals.proofs.design_tests.rules_unused_right.Goals as goal

pub returns : goal.returns
returns c =
    let bs = c.args.s.now in
    c.behind_right.ensures ∙ ap₂ (behind_zero bs) c.rules_at.ensures c.rule_count.ensures ∙ sym (rules_unused bs)
