-- Tests of two inputs by the same rising numbers: the earlier of their first refusals is the first refusal of both tests together.
use mathlib.Core.Path.{◌≡◌, refl}
use mathlib.Core.Bool.{Bool, true, false, ◌&&◌, cond}
use mathlib.Core.Logic.{◌⊎◌, inl, inr, ⊎_elim}
use mathlib.Core.List.{List, [], ◌∷◌}
use Prim.Native.Nat.{ℕ, ◌<◌}
use native.Mathlib.Omega.{arith}
use borrow.Author.Tests.{ltb-true, eq-eqb, ne_eqb}
use lib.Dec.{ltb}
use Rattle.refusals.specs.Refusals.{Test, first_failing}
use Rattle.files.specs.FileRefusals.{earlier}
use Rattle.layout.proofs.Tables.{and_left, and_right}

-- of two refusals, one of which is none or later, the other comes first
earlier_left : (a b : ℕ) → 0 < a → (b ≡ 0) ⊎ (a < b) → earlier a b ≡ a
unfolding earlier
earlier_left a b h (inl e) = rw (ne_eqb a 0 (λ z. absurd (omega arith)), eq-eqb b 0 e)
earlier_left a b h (inr l) = rw (ne_eqb a 0 (λ z. absurd (omega arith)), ne_eqb b 0 (λ z. absurd (omega arith))) (omega arith)

earlier_right : (a b : ℕ) → 0 < b → (a ≡ 0) ⊎ (b < a) → earlier a b ≡ b
unfolding earlier
earlier_right a b h (inl e) = rw (eq-eqb a 0 e)
earlier_right a b h (inr l) = rw (ne_eqb a 0 (λ z. absurd (omega arith)), ne_eqb b 0 (λ z. absurd (omega arith))) (omega arith)

earlier_same : (a : ℕ) → 0 < a → earlier a a ≡ a
unfolding earlier
earlier_same a h = rw (ne_eqb a 0 (λ z. absurd (omega arith))) (omega arith)

-- a number, and whether each of the two inputs passes
pub data Row : Type 0 where
  row : ℕ → Bool → Bool → Row

abbrev pub tests_by : (Bool → Bool → Bool) → List Row → List Test
tests_by g [] = []
tests_by g (row n a b ∷ rs) = record { number = n; passes = g a b } ∷ tests_by g rs

-- the numbers rise, from above m
abbrev pub rising : ℕ → List Row → Bool
rising m [] = true
rising m (row n a b ∷ rs) = ltb m n && rising n rs

-- a refusal is above m
above : (g : Bool → Bool → Bool) (m : ℕ) (rs : List Row) → rising m rs ≡ true → (first_failing (tests_by g rs) ≡ 0) ⊎ (m < first_failing (tests_by g rs))
unfolding first_failing
above g m [] r = inl refl
above g m (row n a b ∷ rs) r = by (g a b) (above g n rs (and_right (ltb m n) (rising n rs) r))
  where
    l : m < n
    l = ltb-true m n (and_left (ltb m n) (rising n rs) r)

    by : (x : Bool) → (first_failing (tests_by g rs) ≡ 0) ⊎ (n < first_failing (tests_by g rs))
        → (cond x (first_failing (tests_by g rs)) n ≡ 0) ⊎ (m < cond x (first_failing (tests_by g rs)) n)
    by true w = ⊎_elim (λ (e : first_failing (tests_by g rs) ≡ 0). inl e) (λ (u : n < first_failing (tests_by g rs)). inr (let z : m < first_failing (tests_by g rs) = omega (arith, l) in z)) w
    by false w = inr l

pub both_first : (m : ℕ) (rs : List Row) → rising m rs ≡ true
    → earlier (first_failing (tests_by (λ a b. a) rs)) (first_failing (tests_by (λ a b. b) rs)) ≡ first_failing (tests_by (λ a b. a && b) rs)
unfolding first_failing earlier
both_first m [] r = refl
both_first m (row n true true ∷ rs) r = both_first n rs (and_right (ltb m n) (rising n rs) r)
both_first m (row n true false ∷ rs) r =
    let l = ltb-true m n (and_left (ltb m n) (rising n rs) r) in
    earlier_right (first_failing (tests_by (λ a b. a) rs)) n (omega arith) (above (λ a b. a) n rs (and_right (ltb m n) (rising n rs) r))
both_first m (row n false true ∷ rs) r =
    let l = ltb-true m n (and_left (ltb m n) (rising n rs) r) in
    earlier_left n (first_failing (tests_by (λ a b. b) rs)) (omega arith) (above (λ a b. b) n rs (and_right (ltb m n) (rising n rs) r))
both_first m (row n false false ∷ rs) r = let l = ltb-true m n (and_left (ltb m n) (rising n rs) r) in earlier_same n (omega arith)
