use mathlib.Core.Path.{◌≡◌}
use lib.ListN.{length}
use Rattle.layout.specs.Bytes.{put}
use Rattle.ranges.specs.Ranges.{states_to}
use Rattle.ranges.proofs.OneEntry.{side_with}
use Rattle.ranges.proofs.blocks.new_states.Given as goal

abbrev pub invariant-loop-j : goal.invariant-loop-j
invariant-loop-j l =
    (l.n ≡ length (side_with l.d l.list l.i l.j)) × (l.s ≡ put l.initial.s 0 (states_to (side_with l.d l.list l.i l.j)))
