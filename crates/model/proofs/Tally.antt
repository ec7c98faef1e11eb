-- A tally of 1 says that exactly one member of a list passes a test.
use mathlib.Core.Path.{◌≡◌, refl, sym, ap, ◌∙◌}
use mathlib.Core.Bool.{Bool, cond}
use mathlib.Core.List.{List, [], ◌∷◌}
use Prim.Native.Nat.{ℕ, zero, suc, ◌<◌}
use native.Mathlib.Omega.{arith}
use native.Mathlib.Nat.{not-suc-le-zero}
use lib.Dec.{T}
use lib.ListN.{length, get_or}
use Rattle.model.specs.Judged.{tally}
use Rattle.model.proofs.Bools.{T-dec, T_true, T_false}

module _ {A : Type 0} (p : A → Bool) (d : A) where
  -- the index of a member that passes, and of no other
  abbrev pub OnlyOne : List A → Type 0
  OnlyOne l = (j : ℕ) × (j < length l) × T (p (get_or l j d)) × ((k : ℕ) → k < length l → T (p (get_or l k d)) → k ≡ j)

  -- a first member that passes, and one that doesn't
  tally_yes : (x : A) (xs : List A) → T (p x) → tally p (x ∷ xs) ≡ suc (tally p xs)
  unfolding tally
  tally_yes x xs t = ap (λ (b : Bool). cond b (suc (tally p xs)) (tally p xs)) (T_true (p x) t)

  tally_no : (x : A) (xs : List A) → (T (p x) → ⊥) → tally p (x ∷ xs) ≡ tally p xs
  unfolding tally
  tally_no x xs n = ap (λ (b : Bool). cond b (suc (tally p xs)) (tally p xs)) (T_false (p x) n)

  -- a tally of 0 says that none passes
  none_passes : (l : List A) → tally p l ≡ 0 → (k : ℕ) → k < length l → T (p (get_or l k d)) → ⊥
  none_passes [] e k h t = not-suc-le-zero h
  none_passes (x ∷ xs) e zero h t = let more : tally p (x ∷ xs) ≡ suc (tally p xs) = tally_yes x xs t in omega arith
  none_passes (x ∷ xs) e (suc k) h t =
      elim (T-dec (p x)) [
        | yes y ↦ let more : tally p (x ∷ xs) ≡ suc (tally p xs) = tally_yes x xs y in absurd (omega arith)
        | no n ↦ none_passes xs (sym (tally_no x xs n) ∙ e) k (omega arith) t
      ]

  tally_none : (l : List A) → ((k : ℕ) → k < length l → T (p (get_or l k d)) → ⊥) → tally p l ≡ 0
  unfolding tally
  tally_none [] n = refl
  tally_none (x ∷ xs) n = tally_no x xs (n 0 (omega arith)) ∙ tally_none xs (λ k h. n (suc k) (omega arith))

  -- a tally of 1 says that exactly one does
  pub tally_one : (l : List A) → tally p l ≡ 1 → OnlyOne l
  unfolding tally
  tally_one [] e = absurd (omega arith)
  tally_one (x ∷ xs) e =
      elim (T-dec (p x)) [
        | yes y ↦
            let more : tally p (x ∷ xs) ≡ suc (tally p xs) = tally_yes x xs y in
            let rest : tally p xs ≡ 0 = omega arith in
            (0, omega arith, y, λ k. elim k as (λ k. k < length (x ∷ xs) → T (p (get_or (x ∷ xs) k d)) → k ≡ 0) [ zero ↦ λ h t. refl | suc j ↦ λ h t. absurd (none_passes xs rest j (omega arith) t) ])
        | no n ↦
            let w = tally_one xs (sym (tally_no x xs n) ∙ e) in
            let h : w.0 < length xs = w.1 in
            (suc w.0, omega arith, w.2, λ k. elim k as (λ k. k < length (x ∷ xs) → T (p (get_or (x ∷ xs) k d)) → k ≡ suc w.0) [ zero ↦ λ h t. absurd (n t) | suc j ↦ λ h t. ap suc (w.3 j (omega arith) t) ])
      ]

  pub one_tally : (l : List A) (j : ℕ) → j < length l → T (p (get_or l j d)) → ((k : ℕ) → k < length l → T (p (get_or l k d)) → k ≡ j) → tally p l ≡ 1
  one_tally [] j h t u = absurd (not-suc-le-zero h)
  one_tally (x ∷ xs) zero h t u =
      let none : tally p xs ≡ 0 = tally_none xs (λ k hk tk. let z : suc k ≡ 0 = u (suc k) (omega arith) tk in omega arith) in
      tally_yes x xs t ∙ ap suc none
  one_tally (x ∷ xs) (suc j) h t u =
      tally_no x xs (λ y. let z : 0 ≡ suc j = u 0 (omega arith) y in omega arith)
      ∙ one_tally xs j (omega arith) t (λ k hk tk. let z : suc k ≡ suc j = u (suc k) (omega arith) tk in omega arith)
