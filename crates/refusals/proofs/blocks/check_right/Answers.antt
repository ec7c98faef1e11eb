-- `blocks::check_right` meets its contract.
use mathlib.Core.Path.{ap₂}
use mathlib.Core.Bool.{Bool}
use lib.Dec.{eqb}
use Rattle.refusals.specs.Refusals.{check_right}
use Rattle.refusals.proofs.blocks.check_right.Goals as goal

pub returns : goal.returns
unfolding check_right
returns c = λ b e. rw e (ap₂ {C = Bool} (λ x y. eqb x y) c.read_word.ensures c.check_of.ensures)
