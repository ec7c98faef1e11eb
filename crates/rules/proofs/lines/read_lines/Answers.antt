-- `lines::read_lines` meets its contract: the lines before `at` are read.
use mathlib.Core.Path.{◌∙◌}
use native.Mathlib.Omega.{arith}
use Rattle.rules.proofs.Chained.{right_of}
use Rattle.rules.proofs.Enclosed.{some_records}
use Rattle.rules.proofs.Graded.{max_worse}
use Rattle.rules.proofs.Lined.{lined_first, lined_wrong, lined_broken, lined_more, lined_all}
use Rattle.rules.proofs.lines.read_lines.Goals as goal

pub loop-at-init : goal.loop-at-init
loop-at-init c =
    let a = c.args in
    let pre = c.requires in
    record { lined = lined_first a.text.now a.store.now.records a.rules.now; all_rules = pre.2; count = pre.0; height = pre.1 }

pub read_implication-requires : goal.read_implication-requires
read_implication-requires c =
    let i = c.loop-at.invariant in
    record { inside = i.lined.inside; slim = omega (arith, i.lined.slim, i.count, i.height) }

-- no rule stands here
pub returns-in_err-part : goal.returns-in_err-part
returns-in_err-part c = rw c.from_residual.ensures (lined_wrong c.loop-at.invariant.lined c.loop-at-test.true c.in_err-part.ensures)

-- something else stands behind the rule
pub returns-in_default : goal.returns-in_default
returns-in_default c =
    let i = c.loop-at.invariant in
    let p = c.in_ok-part.ensures in
    lined_broken i.lined c.loop-at-test.true (right_of i.count i.height p) p.ends c.in_default.ensures

pub overflow_sub-part : goal.overflow_sub-part
overflow_sub-part c = some_records c.in_ok-part.ensures.takes

pub loop-at-preserved : goal.loop-at-preserved
loop-at-preserved c =
    let i = c.loop-at.invariant in
    let p = c.in_ok-part.ensures in
    record {
      lined =
          lined_more i.lined c.loop-at-test.true (right_of i.count i.height p) p.ends c.in-Some.ensures c.put_rule.ensures
          (c.max-read.ensures ∙ max_worse c.loop-at.read.grade c.in_ok-part.part.grade);
      all_rules = c.put_rule.auto.rules ∙ i.all_rules;
      count = p.count;
      height = p.height ∙ i.height;
    }

pub returns : goal.returns
returns c = lined_all c.loop-at.invariant.lined c.loop-at-test.false
