use Rattle.std.proofs.Common.{◌≡◌}
use Rattle.layout.specs.Bytes.{part, put}
use Rattle.layout.proofs.ranges.copy.Given as goal

abbrev pub invariant-loop-i : goal.invariant-loop-i
invariant-loop-i l = l.dst ≡ put l.initial.dst l.at (part l.src l.from l.i)
