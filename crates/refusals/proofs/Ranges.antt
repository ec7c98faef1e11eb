-- What a chain over the numbers below n answers: whether each passes a test.
use mathlib.Core.Path.{◌≡◌, refl, sym, ap, subst, ◌∙◌}
use mathlib.Core.Bool.{Bool, true, false, ◌&&◌}
use mathlib.Core.List.{List}
use Prim.Native.Nat.{ℕ, zero, suc, ◌+◌, ◌<◌}
use native.Mathlib.Omega.{arith}
use lib.ListN.{length, get_or}
use denote.Param.Members.{Mut}
use Rattle.std.specs.declared.ops.Range.{Range}
use Rattle.std.specs.declared.option.Option.{Option}
use Rattle.std.specs.Bool.{MatchBool}
use Rattle.std.specs.Fn.{Called}
use Rattle.std.specs.Iterator.{YieldsThen}
use Rattle.std.specs.List.{FoldsTo, AllWithin, HoldsAt, range_with_len}
use Rattle.std.specs.Option.{MatchOption}
use Rattle.std.proofs.iter.Yields.{nat_range_steps}
use Rattle.std.proofs.lemmas.Iterator.{YieldsList-from_range, cases_from_all}
use Rattle.std.proofs.lemmas.List.FromFn.{length-range_with_len, get_or-range_with_len}
use Rattle.layout.specs.Tables.{every}
use Rattle.model.specs.Judged.{all}
use Rattle.model.proofs.Bools.{T_true, T_false}
use Rattle.layout.proofs.Tables.{true_T, false_T, every_each, every_true, every_false, all_true, all_at}

pub every_cong : (p r : ℕ → Bool) (n : ℕ) → ((k : ℕ) → k < n → p k ≡ r k) → every n p ≡ every n r
unfolding every
every_cong p r zero f = refl
every_cong p r (suc n) f = ap (λ b. b && p n) (every_cong p r n (λ k h. f k (omega arith))) ∙ ap (λ b. every n r && b) (f n (omega arith))

-- a test of each element of a list, by number
pub every_all : {A : Type 0} (p : A → Bool) (d : A) (xs : List A) (n : ℕ) → length xs ≡ n → every n (λ k. p (get_or xs k d)) ≡ all p xs
every_all p d xs n long = by (all p xs) refl
  where
    by : (b : Bool) → all p xs ≡ b → every n (λ k. p (get_or xs k d)) ≡ all p xs
    by true e = every_true (λ k. p (get_or xs k d)) n (λ k h. all_at p d xs e k (omega arith)) ∙ sym e
    by false e =
        T_false (every n (λ k. p (get_or xs k d))) (λ t.
        false_T (all p xs) e (true_T (all p xs) (all_true p d xs (λ k h. T_true (p (get_or xs k d)) (every_each (λ k. p (get_or xs k d)) n t k (omega arith))))))
        ∙ sym e

-- two tests at once
pub every_both : (p r : ℕ → Bool) (n : ℕ) → every n (λ k. p k && r k) ≡ (every n p && every n r)
unfolding every
every_both p r zero = refl
every_both p r (suc n) = ap (λ b. b && (p n && r n)) (every_both p r n) ∙ regrouped (every n p) (every n r) (p n) (r n)
  where
    regrouped : (a b c d : Bool) → ((a && b) && (c && d)) ≡ ((a && c) && (b && d))
    regrouped true true c d = refl
    regrouped true false true d = refl
    regrouped true false false d = refl
    regrouped false b c d = refl

module _ (p : ℕ → Bool) (n : ℕ) where
  -- the test of x says b, if x is below n
  abbrev Says : Bool → ℕ → Type 0
  Says b x = x < n → p x ≡ b

  at_number : (b : Bool) (k : ℕ) → k < n → Says b (get_or (range_with_len 0 n) k 0) → p k ≡ b
  at_number b k h e = subst (Says b) (let z : 0 + k ≡ k = omega arith in get_or-range_with_len 0 n k 0 h ∙ z) e h

  by_cases : (r : Bool)
      → MatchBool r (AllWithin (Says true) (range_with_len 0 n) 0 (length (range_with_len 0 n))) ((k : ℕ) × (k < length (range_with_len 0 n)) × HoldsAt (Says false) (range_with_len 0 n) k)
      → r ≡ every n p
  by_cases true h = sym (every_true p n (λ k l. at_number true k l (h k 0 (omega arith) (omega (arith, length-range_with_len 0 n)))))
  by_cases false h = let l : h.0 < n = omega (arith, h.1, length-range_with_len 0 n) in sym (every_false p n h.0 l (at_number false h.0 l (h.2 0)))

  -- the answer of `(0..n).all(test)`, where a call of the test at x below n answers p x
  pub every_from_all : {F : Type 0} {g : Mut F (ℕ × Unit {0}) Bool} {s : Range ℕ} (u : Range ℕ) (f : F) (r : Bool)
      → (xs : List ℕ) × (o : Option ℕ) × (j : F) × YieldsThen nat_range_steps s xs o u × FoldsTo (λ p x q. Called g p (x, tt) true q) f xs j × MatchOption o (r ≡ true) (λ x. (r ≡ false) × ((h : F) × Called g j (x, tt) false h))
      → s ≡ record { start = 0; end = n }
      → ((x : ℕ) (b : Bool) (q : F) → Called g f (x, tt) b q → (q ≡ f) × (x < n → b ≡ p x))
      → r ≡ every n p
  every_from_all u f r ran e asks =
      by_cases r
      (cases_from_all u f r (Says true) (Says false) ran (YieldsList-from_range 0 n n e (omega arith))
      (λ x q k. let w = asks x true q k in (w.0, λ h. sym (w.1 h)))
      (λ x q k. let w = asks x false q k in λ h. sym (w.1 h)))
