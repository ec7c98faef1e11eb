-- `designs::formula` meets its contract.
use Rattle.std.proofs.Common.{◌+◌, ◌*◌, ap, ◌∙◌}
use Rattle.layout.specs.Sizes.{formula_bytes, records_in_block}
use Rattle.layout.specs.Formulas.{formula_at}
use Rattle.layout.specs.Designs.{stored_formula}
use Rattle.layout.proofs.designs.formula.Goals as goal

pub returns : goal.returns
unfolding stored_formula
returns c =
    let a = c.args in
    c.read_formula.ensures ∙ ap (λ at. formula_at a.s.now (at + records_in_block + formula_bytes * a.k)) c.formulas_at.ensures
