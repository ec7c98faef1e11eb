-- What `all` answers over the numbers from 0 to n: whether `every` number below n passes.
use mathlib.Core.Path.{◌≡◌, refl, sym, ap, ap₂, ◌∙◌}
use mathlib.Core.Bool.{Bool, true, false, ◌&&◌}
use mathlib.Core.List.{List}
use Prim.Native.Nat.{ℕ, zero, suc, ◌+◌, ◌<◌}
use native.Mathlib.Omega.{arith}
use denote.Param.Members.{Mut}
use Rattle.std.proofs.iter.Yields.{nat_range_steps}
use Rattle.std.proofs.lemmas.Iterator.{YieldsList-from_range}
use Rattle.std.proofs.lemmas.Iterator.Search.{all_from_yields_List}
use Rattle.std.specs.Fn.{Called}
use Rattle.std.specs.Iterator.{YieldsThen}
use Rattle.std.specs.List.{FoldsTo, list_all, range_with_len}
use Rattle.std.specs.Option.{MatchOption}
use Rattle.layout.specs.Tables.{every}
use Rattle.layout.proofs.Tables.{and_unit}

and_assoc : (a b c : Bool) → ((a && b) && c) ≡ (a && (b && c))
and_assoc true b c = refl
and_assoc false b c = refl

-- the first number apart
every_first : (p : ℕ → Bool) (n : ℕ) → every (suc n) p ≡ (p 0 && every n (λ k. p (suc k)))
unfolding every
every_first p zero = sym (and_unit (p 0))
every_first p (suc n) = ap (λ b. b && p (suc n)) (every_first p n) ∙ and_assoc (p 0) (every n (λ k. p (suc k))) (p (suc n))

pub every_same : (p q : ℕ → Bool) (n : ℕ) → ((k : ℕ) → k < n → p k ≡ q k) → every n p ≡ every n q
unfolding every
every_same p q zero e = refl
every_same p q (suc n) e = ap₂ ◌&&◌ (every_same p q n (λ k h. e k (omega arith))) (e n (omega arith))

every_listed : (p : ℕ → Bool) (a n : ℕ) → list_all p (range_with_len a n) ≡ every n (λ k. p (a + k))
unfolding every
every_listed p a zero = refl
every_listed p a (suc n) =
    ap (λ b. p a && b) (every_listed p (a + 1) n ∙ every_same _ _ n (λ k h. let e : a + 1 + k ≡ a + suc k = omega arith in ap p e))
    ∙ sym (every_first (λ k. p (a + k)) n ∙ (let z : a + 0 ≡ a = omega arith in ap (λ b. b && every n (λ k. p (a + suc k))) (ap p z)))

module _ {F : Type 0} {g : Mut F (ℕ × Unit {0}) Bool} (p : ℕ → Bool) (n : ℕ) where
  pub every_from_all : (u : _) (f : F) (r : Bool)
      → (xs : List ℕ) × (o : _) × (j : F) × YieldsThen nat_range_steps record { start = 0; end = n } xs o u × FoldsTo (λ a x b. Called g a (x, tt) true b) f xs j
      × MatchOption o (r ≡ true) (λ x. (r ≡ false) × ((h : F) × Called g j (x, tt) false h))
      → ((x : ℕ) (b : Bool) (q : F) → Called g f (x, tt) b q → (q ≡ f) × (b ≡ p x)) → r ≡ every n p
  every_from_all u f r ran calls =
      all_from_yields_List p u f r ran (YieldsList-from_range 0 n n refl (omega arith)) calls
      ∙ every_listed p 0 n ∙ every_same _ _ n (λ k h. let e : 0 + k ≡ k = omega arith in ap p e)
