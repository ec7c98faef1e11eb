use mathlib.Core.Path.{◌≡◌}
use Prim.Native.Nat.{◌-◌}
use lib.ListN.{length, drop}
use Rattle.tokens.specs.Tokens.{behind_spaces}
use Rattle.tokens.specs.Scans.{Onward}
use Rattle.tokens.proofs.spaces_end.Given as goal

abbrev pub invariant-loop-i : goal.invariant-loop-i
invariant-loop-i l = Onward l.text l.at l.i × (behind_spaces (drop l.i l.text) ≡ behind_spaces (drop l.at l.text))

abbrev pub decreases-loop-i : goal.decreases-loop-i
decreases-loop-i l = length l.text - l.i
