-- `blocks::formula_unused_right` meets its contract: byte 3, and the operands.
use native.Mathlib.Omega.{arith}
use Rattle.std.proofs.lemmas.Bool.Decides.{nat_tests}
use Rattle.model.specs.Judged.{all}
use Rattle.layout.specs.Bytes.{all_zero}
use Rattle.layout.specs.Formulas.{form_at, formula_at}
use Rattle.layout.specs.Unused.{unused}
use Rattle.refusals.proofs.blocks.formula_unused_right.Goals as goal

pub returns-then-read_byte-eq0 : goal.returns-then-read_byte-eq0
unfolding unused all_zero all form_at formula_at
returns-then-read_byte-eq0 c = grind (arith, nat_tests)

pub returns-else-read_byte-eq0 : goal.returns-else-read_byte-eq0
unfolding unused all_zero all form_at formula_at
returns-else-read_byte-eq0 c = grind (arith, nat_tests)
