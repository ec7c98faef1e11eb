-- `gorzhani_rules` meets its contract: the answer of the call below, as a number.
use native.Mathlib.Omega.{arith}
use Rattle.gorzhani.proofs.Counts.{few, rules_count}
use Rattle.gorzhani.proofs.Promised.{rules_promised}
use Rattle.gorzhani.proofs.gorzhani_rules.Goals as goal

pub count_code-requires : goal.count_code-requires
count_code-requires c = few c.rules.result (λ n e. omega (arith, rules_count c.rules.ensures e))

pub returns : goal.returns
returns c = rules_promised c.rules.ensures (grind arith)
