-- `designs::design_of_three` meets its contract: five blocks, one behind the other.
use native.Mathlib.Omega.{arith}
use Rattle.layout.proofs.Sealed.{length_sealed}
use Rattle.row_parts.specs.Made.{made_of_three}
use Rattle.row_parts.proofs.Making.{five_put}
use Rattle.row_parts.proofs.designs.design_of_three.Goals as goal

pub returns : goal.returns
unfolding made_of_three
returns c =
    let a = c.args in
    five_put _ _ _ _ _ a.d.now c.block.new.s c.block-2.new.s c.block-3.new.s c.block-4.new.s c.block-5.new.s
    (length_sealed 1 _ 0 a.kernel.now (omega (arith, c.requires.0)))
    (length_sealed 2 _ 0 a.host.now (omega (arith, c.requires.1)))
    (length_sealed 6 _ 0 a.service.now (omega (arith, c.requires.2)))
    (length_sealed 3 _ 0 a.formulas.now (omega (arith, c.requires.3)))
    (length_sealed 4 _ 0 a.rules.now (omega (arith, c.requires.4)))
    (omega arith)
    c.block.ensures c.block-2.ensures c.block-3.ensures c.block-4.ensures c.block-5.ensures
