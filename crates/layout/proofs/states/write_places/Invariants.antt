use Rattle.std.proofs.Common.{◌≡◌}
use Rattle.layout.specs.Bytes.{put}
use Rattle.layout.specs.States.{state_of}
use Rattle.layout.proofs.StateBytes.{first_moves_to}
use Rattle.layout.proofs.states.write_places.Given as goal

abbrev pub invariant-loop-k : goal.invariant-loop-k
invariant-loop-k l = l.s ≡ put l.initial.s l.at (first_moves_to (state_of l.q) l.k)
