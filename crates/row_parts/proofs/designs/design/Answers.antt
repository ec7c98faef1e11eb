-- `designs::design` meets its contract: four blocks, one behind the other.
use native.Mathlib.Omega.{arith}
use Rattle.layout.proofs.Sealed.{length_sealed}
use Rattle.row_parts.specs.Made.{made}
use Rattle.row_parts.proofs.Making.{four_put}
use Rattle.row_parts.proofs.designs.design.Goals as goal

pub returns : goal.returns
unfolding made
returns c =
    let a = c.args in
    four_put _ _ _ _ a.d.now c.block.new.s c.block-2.new.s c.block-3.new.s c.block-4.new.s
    (length_sealed 1 _ 0 a.kernel.now (omega (arith, c.requires.0)))
    (length_sealed 2 _ 0 a.host.now (omega (arith, c.requires.1)))
    (length_sealed 3 _ 0 a.formulas.now (omega (arith, c.requires.2)))
    (length_sealed 4 _ 0 a.rules.now (omega (arith, c.requires.3)))
    (omega arith)
    c.block.ensures c.block-2.ensures c.block-3.ensures c.block-4.ensures
