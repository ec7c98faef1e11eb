-- What a chain over the sides' events tells, as a test of the model; and what fits, side by side, by the side's number.
use mathlib.Core.Path.{◌≡◌, refl, ap}
use mathlib.Core.Bool.{Bool, true, false, ◌&&◌}
use mathlib.Core.List.{List, [], ◌∷◌}
use Prim.Native.Nat.{ℕ, zero, suc, ◌<◌}
use native.Mathlib.Nat.{not-suc-le-zero}
use native.Mathlib.Omega.{arith}
use lib.ListN.{length, get_or}
use Rattle.std.specs.List.{list_all, zip}
use Rattle.model.specs.Events.{Event, tick}
use Rattle.model.specs.Judged.{all}
use Rattle.model.specs.Runs.{fits, all_fit}
use Rattle.layout.proofs.Tables.{and_true, and_false, and_false_right}

pub all_is : {A : Type 0} (p : A → Bool) (l : List A) → list_all p l ≡ all p l
unfolding all
all_is p [] = refl
all_is p (x ∷ l) = ap (λ b. p x && b) (all_is p l)

pub all_fit_is : (xs es : List Event) → length xs ≡ length es → list_all (λ (p : Event × Event). fits p.0 p.1) (zip xs es) ≡ all_fit xs es
unfolding all_fit
all_fit_is [] [] e = refl
all_fit_is (x ∷ xs) (y ∷ es) e = ap (λ b. fits x y && b) (all_fit_is xs es (omega arith))
all_fit_is [] (y ∷ es) e = absurd (omega arith)
all_fit_is (x ∷ xs) [] e = absurd (omega arith)

-- ---- by the side's number
pub fit_each : (xs es : List Event) → length xs ≡ length es → ((i : ℕ) → i < length xs → fits (get_or xs i tick) (get_or es i tick) ≡ true) → all_fit xs es ≡ true
unfolding all_fit
fit_each [] [] e f = refl
fit_each (x ∷ xs) (y ∷ es) e f = and_true (fits x y) (all_fit xs es) (f 0 (omega arith)) (fit_each xs es (omega arith) (λ i h. f (suc i) (omega arith)))
fit_each [] (y ∷ es) e f = absurd (omega arith)
fit_each (x ∷ xs) [] e f = absurd (omega arith)

pub unfit_one : (xs es : List Event) (i : ℕ) → i < length xs → fits (get_or xs i tick) (get_or es i tick) ≡ false → all_fit xs es ≡ false
unfolding all_fit
unfit_one [] es i h e = absurd (not-suc-le-zero h)
unfit_one (x ∷ xs) [] i h e = refl
unfit_one (x ∷ xs) (y ∷ es) zero h e = and_false (fits x y) (all_fit xs es) e
unfit_one (x ∷ xs) (y ∷ es) (suc i) h e = and_false_right (fits x y) (all_fit xs es) (unfit_one xs es i (omega arith) e)
