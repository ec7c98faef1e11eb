-- Shown events by their sign: what the tests `x <= 0`, `x == 0` and `x < 0` say of what a side can show, and of what fits.
use mathlib.Core.Path.{◌≡◌, refl, sym, ◌∙◌}
use mathlib.Core.Bool.{true, false, true≢false}
use mathlib.Core.List.{[], ◌∷◌}
use Prim.Native.Nat.{ℕ, zero, suc, ◌-◌}
use native.Mathlib.Decide.{ℕ_discrete}
use native.Mathlib.Omega.{arith}
use borrow.Author.Tests.{ltb-true, leb-true, leb-false, eq-eqb, ne_eqb}
use lib.Dec.{leb-zero, eqb}
use lib.IntN.{pos, negsuc}
use lib.Signed.{lt_z, le_z}
use Rattle.std.proofs.Common.{w8, SFits, to_z, of_z}
use Rattle.model.specs.Events.{Event, same_event}
use Rattle.model.specs.Runs.{fits}
use Rattle.layout.specs.Tests.{in_range}
use Rattle.layout.proofs.SignedBytes.{read_back}
use Rattle.runner.specs.Ticks.{can_show}

-- ---- what can be shown
pub above : (x : Event) → le_z x (pos 0) ≡ false → can_show x ≡ false
unfolding can_show
above (pos n) t = ne_eqb n 0 (λ e. let h = leb-false n 0 t in omega arith)
above (negsuc n) t = absurd (true≢false t)

pub not_above : (x : Event) → le_z x (pos 0) ≡ true → in_range x ≡ can_show x
unfolding can_show
not_above (pos zero) t = refl
not_above (pos (suc n)) t = let h = leb-true (suc n) 0 t in absurd (omega arith)
not_above (negsuc n) t = refl

-- ---- what fits
-- 0 fits what isn't sent
pub fits_zero : (e : Event) → le_z (pos 0) e ≡ fits (pos 0) e
unfolding fits
fits_zero (pos n) = leb-zero n
fits_zero (negsuc n) = refl

-- two tests of numbers that are equal for the same reason
eqb_both : (a b x y : ℕ) → (a ≡ b → x ≡ y) → (x ≡ y → a ≡ b) → eqb a b ≡ eqb x y
eqb_both a b x y f g = by (ℕ_discrete a b)
  where
    by : Dec (a ≡ b) → eqb a b ≡ eqb x y
    by (yes p) = eq-eqb a b p ∙ sym (eq-eqb x y (f p))
    by (no n) = ne_eqb a b n ∙ sym (ne_eqb x y (λ q. n (g q)))

-- equal bits are equal events
pub same_bits : (a b : Event) → SFits w8 a → SFits w8 b → eqb (of_z w8 a) (of_z w8 b) ≡ same_event a b
same_bits (pos m) (pos n) f g = refl
same_bits (negsuc m) (negsuc n) f g = eqb_both (256 - suc m) (256 - suc n) m n (λ p. omega (arith, f.sfits, g.sfits)) (λ p. omega arith)
same_bits (pos m) (negsuc n) f g = ne_eqb m (256 - suc n) (λ p. omega (arith, f.sfits, g.sfits))
same_bits (negsuc m) (pos n) f g = ne_eqb (256 - suc m) n (λ p. omega (arith, f.sfits, g.sfits))

-- a sent event fits itself
pub fits_same : (x e : Event) → lt_z x (pos 0) ≡ true → same_event x e ≡ fits x e
unfolding fits
fits_same (pos n) e t = let h = ltb-true n 0 t in absurd (omega arith)
fits_same (negsuc n) e t = refl

-- nothing fits an event above 0
pub fits_none : (x e : Event) → (x ≡ pos 0 → ⊥) → lt_z x (pos 0) ≡ false → fits x e ≡ false
unfolding fits
fits_none (pos zero) e n t = absurd (n refl)
fits_none (pos (suc k)) e n t = refl
fits_none (negsuc k) e n t = absurd (true≢false t)

-- ---- what is shown is what the machine reads back
pub read_again : (x y z : Event) → SFits w8 x → SFits w8 y → SFits w8 z → to_z w8 (of_z w8 x) ∷ to_z w8 (of_z w8 y) ∷ to_z w8 (of_z w8 z) ∷ [] ≡ x ∷ y ∷ z ∷ []
read_again x y z f g h = rw (read_back x f.sfits, read_back y g.sfits, read_back z h.sfits)
