-- `scan` meets its contract: behind the spaces, the byte that stands there tells which token it is.
use borrow.Author.Rules.{rules}
use mathlib.Core.Path.{sym, ◌∙◌}
use Prim.Native.Nat.{◌<◌}
use native.Mathlib.Omega.{arith}
use lib.ListN.{length}
use Rattle.tokens.proofs.Firsts.{scans_end, scans_word, scans_arrow, scans_sign}
use Rattle.tokens.proofs.scan.Goals as goal
use Rattle.tokens.proofs.scan.Goals.{After-is_worded}

pub returns-then-at-text : goal.returns-then-at-text
returns-then-at-text c = scans_end _ _ _ c.spaces_end-at.ensures (omega arith)

-- a byte stands there
inside : (c : After-is_worded) → c.spaces_end-at.result < length c.args.text.now
inside c = omega arith

pub returns-then-is_worded : goal.returns-then-is_worded
returns-then-is_worded c =
    scans_word _ _ _ c.spaces_end-at.ensures (inside (goal.at.returns-then-is_worded c).After-is_worded) (sym c.is_worded.ensures ∙ c.if-is_worded.true) _ c.word_end-next.ensures _ c.word.ensures

pub returns-in-45 : goal.returns-in-45
returns-in-45 c =
    scans_arrow _ _ _ c.spaces_end-at.ensures (inside (goal.at.returns-in-45 c).After-is_worded) (sym c.is_worded.ensures ∙ c.if-is_worded.false) c.in-45.is _ c.arrow_head.ensures

pub returns-in_default-2 : goal.returns-in_default-2
returns-in_default-2 c =
    scans_sign _ _ _ c.spaces_end-at.ensures (inside (goal.at.returns-in_default-2 c).After-is_worded) (sym c.is_worded.ensures ∙ c.if-is_worded.false) (search rules) _ c.sign.ensures
