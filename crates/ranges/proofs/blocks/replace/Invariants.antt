use mathlib.Core.Path.{◌≡◌}
use Prim.Native.Nat.{◌*◌}
use Rattle.model.specs.Ranges.{counts}
use Rattle.layout.specs.Sizes.{state_bytes}
use Rattle.layout.specs.Bytes.{put}
use Rattle.layout.specs.States.{state_of}
use Rattle.ranges.specs.Entries.{range_of}
use Rattle.ranges.specs.Ranges.{states_to}
use Rattle.ranges.proofs.blocks.replace.Given as goal

-- counts 1 to k are put behind the n states
abbrev pub invariant-loop-k : goal.invariant-loop-k
invariant-loop-k l = l.s ≡ put l.initial.s (state_bytes * l.n) (states_to (counts (range_of l.e) l.n (state_of l.q) 1 l.k))
