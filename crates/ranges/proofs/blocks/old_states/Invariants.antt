use mathlib.Core.Path.{◌≡◌}
use lib.ListN.{take}
use Rattle.layout.specs.Bytes.{put}
use Rattle.layout.specs.Designs.{design, side}
use Rattle.ranges.specs.Ranges.{states_to}
use Rattle.ranges.proofs.blocks.old_states.Given as goal

-- the first k states are put
abbrev pub invariant-loop-k : goal.invariant-loop-k
invariant-loop-k l = l.s ≡ put l.initial.s 0 (states_to (take l.k (side (design l.d) l.i)))
