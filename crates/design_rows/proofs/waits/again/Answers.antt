-- `waits::again` is safe: the new design stands at the front of what was lent.
use native.Mathlib.Omega.{arith}
use lib.ListN.{length-take}
use Rattle.design_rows.proofs.waits.again.Goals as goal

pub slice_bounds-refused-end : goal.slice_bounds-refused-end
slice_bounds-refused-end g c = omega (arith, length-take 2048 c.pair-made.result, c.pair-made.ensures)
