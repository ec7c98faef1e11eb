-- Signed bytes: an event has the bits of its byte, and is read back from it; and what the machine's comparisons and differences of `i8` say of the numbers.
use Rattle.std.proofs.Common.{◌≡◌, ℕ, zero, suc, ◌-◌, ◌<◌, ◌≤◌, Bool, true, false, cond, leb, ltb, ℤ, pos, negsuc, ◌-ℤ◌, neg_ℤ, nat_abs, sym, refl, ap, ◌∙◌, true≢false, arith, w8, SFits, to_z, of_z, ltb-false, ltb-true, le-ltb, lt-ltb, le-leb}
use mathlib.Core.Bool.{false≢true}
use native.Mathlib.Decide.{dec_lt}
use borrow.Author.Tests.{lt-leb}
use lib.Dec.{leb-zero}
use lib.IntN.{+ℤ_idl}
use lib.Signed.{mag, lt_z, le_z}
use mir.ValLaws.{to_z-of_z}
use Rattle.model.specs.Events.{Event, InRange, sent}
use Rattle.layout.specs.Bytes.{event_of, event_byte}

-- the machine reads a number back from its bits
pub read_back : (e : ℤ) → mag e < 128 → to_z w8 (of_z w8 e) ≡ e
read_back e h = to_z-of_z w8 e (record { sfits = h })

-- 0 - e is the negation
pub from_zero : (e : ℤ) → pos 0 -ℤ e ≡ neg_ℤ e
from_zero e = +ℤ_idl (neg_ℤ e)

-- an event in range has a negation that fits
pub negation_fits : (e : ℤ) → nat_abs e ≤ 63 → SFits w8 (neg_ℤ e)
negation_fits (pos zero) h = record { sfits = omega arith }
negation_fits (pos (suc n)) h = record { sfits = omega arith }
negation_fits (negsuc n) h = record { sfits = omega arith }

-- -1 - m, and -1 - (-(n + 1))
pub below_zero : (m : ℕ) → negsuc 0 -ℤ pos m ≡ negsuc m
below_zero zero = refl
below_zero (suc m) = ap negsuc (omega arith)

pub above_zero : (n : ℕ) → negsuc 0 -ℤ negsuc n ≡ pos n
above_zero n = rw (le-ltb (suc n) 1 (omega arith)) (ap pos (omega arith))

-- the test `0 <= e`
pub nonnegative : (e : ℤ) → le_z (pos 0) e ≡ true → (n : ℕ) × (e ≡ pos n)
nonnegative (pos n) t = (n, refl)
nonnegative (negsuc n) t = absurd (false≢true t)

pub negative : (e : ℤ) → le_z (pos 0) e ≡ false → (n : ℕ) × (e ≡ negsuc n)
negative (pos n) t = absurd (true≢false (sym (leb-zero n) ∙ t))
negative (negsuc n) t = (n, refl)

-- the test `e < 0`
pub sent_below : (e : ℤ) → lt_z e (pos 0) ≡ sent e
sent_below (pos n) = le-ltb n 0 (omega arith)
sent_below (negsuc n) = refl

-- ---- an event and its byte
-- they have the same bits
pub signed_byte : (b : ℕ) → to_z w8 b ≡ event_of b
unfolding event_of
signed_byte b = ap (λ n. cond (ltb b 128) (pos b) (negsuc n)) (omega arith)

pub unsigned_event : (e : Event) → of_z w8 e ≡ event_byte e
unfolding event_byte
unsigned_event (pos n) = refl
unsigned_event (negsuc n) = omega arith

-- an event in range is read back from its byte, and a byte from its event
pub event_back : (e : Event) → InRange e → event_of (event_byte e) ≡ e
unfolding event_of event_byte
event_back (pos n) h = ap (λ (b : Bool). cond b (pos n) (negsuc (255 - n))) (lt-ltb n 128 (omega arith))
event_back (negsuc n) h =
    ap (λ (b : Bool). cond b (pos (255 - n)) (negsuc (255 - (255 - n)))) (le-ltb (255 - n) 128 (omega arith)) ∙ ap negsuc (omega arith)

pub byte_back : (b : ℕ) → b < 256 → event_byte (event_of b) ≡ b
unfolding event_of event_byte
byte_back b h = by (dec_lt b 128)
  where
    by : Dec (b < 128) → event_byte (event_of b) ≡ b
    by (yes l) = ap (λ (t : Bool). event_byte (cond t (pos b) (negsuc (255 - b)))) (lt-ltb b 128 l)
    by (no l) = ap (λ (t : Bool). event_byte (cond t (pos b) (negsuc (255 - b)))) (le-ltb b 128 (omega arith)) ∙ omega arith

-- ---- the range
-- below -63, and up to 63
pub too_low : (e : ℤ) → lt_z e (negsuc 62) ≡ true → leb (nat_abs e) 63 ≡ false
too_low (pos n) t = absurd (false≢true t)
too_low (negsuc n) t = lt-leb (suc n) 63 (omega (arith, ltb-true 62 n t))

pub low_enough : (e : ℤ) → lt_z e (negsuc 62) ≡ false → le_z e (pos 63) ≡ leb (nat_abs e) 63
low_enough (pos n) t = refl
low_enough (negsuc n) t = sym (le-leb (suc n) 63 (omega (arith, ltb-false 62 n t)))
