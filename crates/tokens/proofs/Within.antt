-- Whether a byte is within bounds, by how it stands to them.
use mathlib.Core.Path.{◌≡◌}
use mathlib.Core.Bool.{true, false, and-false}
use Prim.Native.Nat.{ℕ, ◌≤◌, ◌<◌}
use borrow.Author.Tests.{le-leb, lt-leb, leb-true}
use lib.Dec.{leb}
use Rattle.layout.proofs.Tables.{and_left, and_right}
use Rattle.tokens.specs.Tokens.{within}

module _ (least most b : ℕ) where
  -- less than the least
  pub below : b < least → within least most b ≡ false
  below h = rw (lt-leb least b h)

  -- more than the most
  pub above : most < b → within least most b ≡ false
  above h = rw (lt-leb b most h, and-false)

  -- neither
  pub among : least ≤ b → b ≤ most → within least most b ≡ true
  among l h = rw (le-leb least b l, le-leb b most h)

  -- and back
  pub bounds : within least most b ≡ true → (least ≤ b) × (b ≤ most)
  bounds e = (leb-true least b (and_left (leb least b) (leb b most) e), leb-true b most (and_right (leb least b) (leb b most) e))
