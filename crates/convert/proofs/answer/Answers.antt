-- `answer` is safe and ends: 1,152 records fill 128 blocks at most.
use Prim.Native.Nat.{◌*◌, ◌≤◌}
use native.Mathlib.Omega.{arith}
use lib.ListN.{length, length-take}
use borrow.Author.Rules.{rules}
use Rattle.convert.proofs.Converting.{blocks_fit}
use Rattle.convert.proofs.answer.Given as given
use Rattle.convert.proofs.answer.Goals as goal
use Rattle.convert.proofs.answer.Goals.{In-Ok}

-- the blocks to write are those of the array
fits : (g : given.Over) (c : In-Ok g) → 512 * c.in-Ok.n ≤ length c.convert.new.blocks
fits g c =
    let b = blocks_fit _ _ _ _ _ _ (search rules) (search rules) _ c.in-Ok.n c.convert.result c.convert.ensures c.in-Ok.is in
    omega (arith, b)

pub overflow_mul-size : goal.overflow_mul-size
overflow_mul-size g c = record { fits = omega (arith, fits g (goal.at.overflow_mul-size g c).In-Ok) }

pub slice_bounds-blocks-end : goal.slice_bounds-blocks-end
slice_bounds-blocks-end g c = fits g (goal.at.slice_bounds-blocks-end g c).In-Ok

pub slice_bounds-write_all-end : goal.slice_bounds-write_all-end
slice_bounds-write_all-end g c = simp length-take (omega (arith, fits g (goal.at.slice_bounds-write_all-end g c).In-Ok))
