use mathlib.Core.Path.{◌≡◌}
use Prim.Native.Nat.{◌≤◌}
use lib.ListN.{length}
use Rattle.layout.specs.Sizes.{most_states}
use Rattle.layout.specs.Designs.{design, side}
use Rattle.ranges.proofs.EntryLists.{with_entries}
use Rattle.ranges.proofs.tests.side_fits.Given as goal

abbrev pub invariant-loop-j : goal.invariant-loop-j
invariant-loop-j l = (l.n ≤ most_states) × (l.n ≡ length (with_entries (side (design l.d) l.i) l.list l.i l.j))
