-- `blocks::state_unused_right` meets its contract: byte 3, and the places that are not used.
use native.Mathlib.Omega.{arith}
use Rattle.std.proofs.lemmas.Bool.Decides.{nat_tests}
use Rattle.model.specs.Judged.{all}
use Rattle.layout.specs.Bytes.{all_zero}
use Rattle.layout.specs.Unused.{unused}
use Rattle.refusals.proofs.blocks.state_unused_right.Goals as goal

pub returns-then-n-gt-PLACES : goal.returns-then-n-gt-PLACES
unfolding unused all_zero all
returns-then-n-gt-PLACES c = grind (arith, nat_tests)

pub returns-else-n-gt-PLACES : goal.returns-else-n-gt-PLACES
unfolding unused all_zero all
returns-else-n-gt-PLACES c = grind (arith, nat_tests)

pub returns-else-read_byte-eq0 : goal.returns-else-read_byte-eq0
unfolding unused all_zero all
returns-else-read_byte-eq0 c = grind (arith, nat_tests)
