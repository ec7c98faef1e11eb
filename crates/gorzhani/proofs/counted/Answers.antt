-- `counted` meets its contract: a count of records fits 32 bits.
use native.Mathlib.Omega.{arith}
use mir.Syntax.{w32}
use mir.ValLaws.{to_z_pos}
use Rattle.gorzhani.proofs.counted.Goals as goal

pub returns : goal.returns
returns c = to_z_pos w32 c.args.n (omega (arith, c.requires))
