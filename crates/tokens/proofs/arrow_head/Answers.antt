-- `arrow_head` meets its contract: by the byte that stands there.
use native.Mathlib.Omega.{arith}
use Rattle.tokens.proofs.Firsts.{scans, arrow_whole, arrow_other, arrow_over}
use Rattle.tokens.proofs.arrow_head.Goals as goal
use Rattle.tokens.proofs.arrow_head.Goals.{else-at-text-via-then-at-text+else-text-at-eq62, else-at-text-via-else-at-text}

pub returns-then-text-at-eq62 : goal.returns-then-text-at-eq62
returns-then-text-at-eq62 c = scans _ _ _ _ (omega arith) (arrow_whole _ _ c.if-at-text.true c.if-text-at-eq62.true)

pub returns : goal.returns
returns c = elim c.else-at-text.branch [
  | else-at-text-via-then-at-text+else-text-at-eq62 w ↦ scans _ _ _ _ (omega arith) (arrow_other _ _ w.if-at-text.true w.if-text-at-eq62.false)
  | else-at-text-via-else-at-text w ↦ scans _ _ _ _ (omega arith) (arrow_over _ _ w.if-at-text.false)
]
