-- The range of an entry, where it has a greatest count and where it has none.
use mathlib.Core.Path.{◌≡◌, refl}
use mathlib.Core.Bool.{Bool, true, false, cond}
use Prim.Native.Nat.{ℕ, ◌<◌}
use lib.Dec.{eqb, ltb}
use Rattle.std.proofs.Common.{Option, None, Some}
use Rattle.std.specs.Option.{unwrap_or}
use Rattle.model.specs.Ranges.{up_to, none, Range, last_count, below}
use Rattle.ranges.specs.declared.entries.Entry.{Entry}
use Rattle.ranges.specs.Entries.{no_greatest, range_of}

-- a greatest count as the code has it, and as the model has it
abbrev pub greatest_in : Entry → Option ℕ
greatest_in e = cond (eqb e.greatest no_greatest) None (Some e.greatest)

-- count k is below a greatest, where there is one
abbrev pub below_in : ℕ → Option ℕ → Bool
below_in k None = true
below_in k (Some g) = ltb k g

module _ (e : Entry) where
  of_range : (b : Bool) → Range
  of_range b = record { state = e.state; least = e.least; greatest = cond b none (up_to e.greatest) }

  pub last_told : unwrap_or (greatest_in e) e.least ≡ last_count (range_of e)
  unfolding range_of of_range
  last_told = by (eqb e.greatest no_greatest)
    where
      by : (b : Bool) → unwrap_or (cond b None (Some e.greatest)) e.least ≡ last_count (of_range b)
      by true = refl
      by false = refl

  pub below_told : (k : ℕ) → below_in k (greatest_in e) ≡ below k (range_of e).greatest
  unfolding range_of
  below_told k = by (eqb e.greatest no_greatest)
    where
      by : (b : Bool) → below_in k (cond b None (Some e.greatest)) ≡ below k (cond b none (up_to e.greatest))
      by true = refl
      by false = refl

  -- it fits a byte
  pub last_small : e.least < 256 → e.greatest < 256 → last_count (range_of e) < 256
  unfolding range_of of_range
  last_small l g = by (eqb e.greatest no_greatest)
    where
      by : (b : Bool) → last_count (of_range b) < 256
      by true = l
      by false = g
