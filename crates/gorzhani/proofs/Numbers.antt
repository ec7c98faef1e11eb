-- The numbers of answers as the machine computes them, at 32 bits.
use mathlib.Core.Path.{◌≡◌, ap, ◌∙◌}
use Prim.Native.Nat.{ℕ, zero, suc, ◌<◌}
use native.Mathlib.Omega.{arith}
use lib.IntN.{ℤ, pos, neg_ℤ, ◌-ℤ◌}
use lib.Signed.{mag}
use mir.Syntax.{w32}
use mir.Val.{SFits, to_z, of_z}
use mir.ValLaws.{to_z_pos, to_z-of_z}
use Rattle.layout.proofs.SignedBytes.{from_zero}

-- the machine reads a number back from its bits
pub read_back : (z : ℤ) → mag z < 2147483648 → to_z w32 (of_z w32 z) ≡ z
read_back z h = to_z-of_z w32 z (record { sfits = h })

-- a refusal's number, negated, fits
pub negated_fits : (k : ℕ) → k < 256 → SFits w32 (neg_ℤ (pos k))
negated_fits zero h = record { sfits = omega arith }
negated_fits (suc n) h = record { sfits = omega arith }

-- and is the difference that the code takes
pub negated : (k : ℕ) → k < 256 → pos 0 -ℤ to_z w32 k ≡ neg_ℤ (pos k)
negated k h = ap (λ z. pos 0 -ℤ z) (to_z_pos w32 k (omega arith)) ∙ from_zero (pos k)
