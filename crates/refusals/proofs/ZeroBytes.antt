-- A test for zeros, of two lists of bytes.
use mathlib.Core.Path.{◌≡◌}
use mathlib.Core.Bool.{◌&&◌}
use mathlib.Core.List.{List, ◌++◌}
use Prim.Native.Nat.{ℕ}
use lib.Dec.{eqb}
use Rattle.layout.specs.Bytes.{all_zero}
use Rattle.refusals.proofs.AllTests.{all_append}

pub zeros_append : (bs cs : List ℕ) → all_zero (bs ++ cs) ≡ (all_zero bs && all_zero cs)
unfolding all_zero
zeros_append bs cs = all_append (λ b. eqb b 0) bs cs
