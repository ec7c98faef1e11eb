-- The subsets of a set t of numbers below k, listed by recursion on its digits, for a search that goes through them and may stop early.
use mathlib.Core.Path.{◌≡◌, refl, sym, ap, subst, subst⁻¹, ◌∙◌}
use mathlib.Core.Bool.{Bool, true, false, not, ◌&&◌, ◌||◌, cond, and-false}
use mathlib.Core.Logic.{◌⊎◌, inl, inr, ⊎_elim, ◌↔◌}
use mathlib.Core.List.Memᴰ
use mathlib.Core.List.Memᴰ.{append_cases}
use mathlib.Core.List.Memᴰ.{append_left}
use mathlib.Core.List.Memᴰ.{append_right}
use mathlib.Core.List.Memᴰ.{eq_of_singleton}
use mathlib.Core.List.Memᴰ.{head as here}
use mathlib.Core.List.Memᴰ.{not-nil}
use mathlib.Core.List.{List, [], ◌∷◌, ◌++◌, Memᴰ as In}
use Prim.Native.Nat.{ℕ, zero, suc, ◌+◌, ◌-◌, ◌%◌, ◌^◌, ◌<◌}
use native.Mathlib.Omega.{arith}
use native.Mathlib.Nat.{mod-lt, le_refl, zero-add}
use borrow.Author.Tests.{eq-eqb}
use lib.Dec.{T, eqb, eqb→eq}
use lib.Arith.{lt-one}
use lib.Pow.{pow_pos, pow-lt}
use Rattle.model.specs.Joined.{bit}
use Rattle.model.proofs.Bools.{and_both, or_either, or_left, or_right, T_true}
use Rattle.model.proofs.Sets.{Subset, digit_low, digit_past, digit_zero, digit_sum, drop_top, with_digits, with_lt, without_digits, without_le, member_lt}

-- Each is the set c that was chosen so far with some members of t below k. The members are gone through from the highest; the sets without it come first.
unfoldable pub subsets_from : ℕ → ℕ → ℕ → List ℕ
subsets_from t zero c = c ∷ []
subsets_from t (suc k) c = subsets_from t k c ++ cond (bit t k) (subsets_from t k (c + 2 ^ k)) []

-- c with a subset of t's members below k
pub record Chosen (t k c m : ℕ) : Type 0 where
  pub part : ℕ
  pub low : part < 2 ^ k
  pub subset : Subset part t
  pub whole : m ≡ c + part

-- the next member left out
leave : {t k c m : ℕ} → Chosen t k c m → Chosen t (suc k) c m
leave {k = k} w = record { part = w.part; low = omega (arith, w.low, pow-lt (le_refl (suc k))); subset = w.subset; whole = w.whole }

-- the next member taken
take : {t k c m : ℕ} → bit t k ≡ true → Chosen t k (c + 2 ^ k) m → Chosen t (suc k) c m
take {t} {k} {c} {m} b w =
    let lacks : bit w.part k ≡ false = digit_past w.part k k w.low (omega arith) in
    record {
      part = w.part + 2 ^ k;
      low = with_lt w.part k lacks (suc k) (omega (arith, w.low, pow-lt (le_refl (suc k)))) (omega arith);
      subset = λ j t'. ⊎_elim (λ (x : T (bit w.part j)). w.subset j x)
          (λ (x : T (eqb j k)). subst⁻¹ (λ (i : ℕ). T (bit t i)) (eqb→eq j k x) (subst⁻¹ T b tt))
          (or_either (bit w.part j) (eqb j k) (subst T (with_digits w.part k lacks j) t'));
      whole = omega (arith, w.whole);
    }

-- Each that is listed is such a set.
pub subsets_are : (t k c m : ℕ) → In m (subsets_from t k c) → Chosen t k c m
unfolding subsets_from
subsets_are t zero c m i = record { part = 0; low = omega arith; subset = λ j x. absurd (subst T (digit_zero j) x); whole = eq_of_singleton i ∙ omega arith }
subsets_are t (suc k) c m i = by (bit t k) refl (append_cases (subsets_from t k c) i) (subsets_are t k c m) (subsets_are t k (c + 2 ^ k) m)
  where
    by : (b : Bool) → bit t k ≡ b → In m (subsets_from t k c) ⊎ In m (cond b (subsets_from t k (c + 2 ^ k)) []) → (In m (subsets_from t k c) → Chosen t k c m) → (In m (subsets_from t k (c + 2 ^ k)) → Chosen t k (c + 2 ^ k) m) → Chosen t (suc k) c m
    by b e (inl i) f g = leave (f i)
    by true e (inr i) f g = take e (g i)
    by false e (inr i) f g = absurd (not-nil i)

-- Each such set is listed.
pub are_subsets : (t k c x : ℕ) → x < 2 ^ k → Subset x t → In (c + x) (subsets_from t k c)
unfolding subsets_from
are_subsets t zero c x h sub = let e : c + x ≡ c = omega (arith, lt-one h) in here e
are_subsets t (suc k) c x h sub = by (bit x k) refl (are_subsets t k c x) (are_subsets t k (c + 2 ^ k) (x - 2 ^ k))
  where
    by : (b : Bool) → bit x k ≡ b → (x < 2 ^ k → Subset x t → In (c + x) (subsets_from t k c)) → (x - 2 ^ k < 2 ^ k → Subset (x - 2 ^ k) t → In (c + 2 ^ k + (x - 2 ^ k)) (subsets_from t k (c + 2 ^ k))) → In (c + x) (subsets_from t k c ++ cond (bit t k) (subsets_from t k (c + 2 ^ k)) [])
    by false e f g = append_left (cond (bit t k) (subsets_from t k (c + 2 ^ k)) []) (f (drop_top k x h e) sub)
    by true e f g =
        let digits : (i : ℕ) → bit (x - 2 ^ k) i ≡ (bit x i && not (eqb i k)) = without_digits (suc k) x k h e in
        let whole : c + x ≡ c + 2 ^ k + (x - 2 ^ k) = omega (arith, without_le (suc k) x k h e) in
        append_right (subsets_from t k c)
        (subst⁻¹ (λ (b : Bool). In (c + x) (cond b (subsets_from t k (c + 2 ^ k)) [])) (T_true (bit t k) (sub k (subst⁻¹ T e tt)))
        (Memᴰ.cast whole
        (g (drop_top k (x - 2 ^ k) (omega arith) (digits k ∙ ap (λ (y : Bool). bit x k && not y) (eq-eqb k k refl) ∙ and-false (bit x k))) (λ i t'. sub i (and_both (bit x i) (not (eqb i k)) (subst T (digits i) t')).0))))

-- all subsets of t below k
abbrev pub subsets : ℕ → ℕ → List ℕ
subsets t k = subsets_from t k 0

-- they are listed, and nothing else is
pub in_subsets : (t k m : ℕ) → In m (subsets t k) ↔ ((m < 2 ^ k) × Subset m t)
in_subsets t k m = (
  λ i.
      let w = subsets_are t k 0 m i in
      let e : m ≡ w.part = w.whole ∙ zero-add w.part in
      (subst⁻¹ (λ (x : ℕ). x < 2 ^ k) e w.low, subst⁻¹ (λ (x : ℕ). Subset x t) e w.subset),
  λ w. Memᴰ.cast (sym (zero-add m)) (are_subsets t k 0 m w.0 w.1),
)

-- The largest of them is c with all members of t below k, for a c that has no member below k.
pub below_largest : (t k c m : ℕ) → c % 2 ^ k ≡ 0 → In m (subsets_from t k c) → Subset m (c + t % 2 ^ k)
below_largest t k c m e i j x =
    let w = subsets_are t k c m i in
    let y : T (bit c j || bit w.part j) = subst T (ap (λ (n : ℕ). bit n j) w.whole ∙ digit_sum k c w.part e w.low j) x in
    subst⁻¹ T (digit_sum k c (t % 2 ^ k) e (mod-lt t (pow_pos k)) j)
    (⊎_elim (λ (z : T (bit c j)). or_left (bit c j) (bit (t % 2 ^ k) j) z)
    (λ (z : T (bit w.part j)). or_right (bit c j) (bit (t % 2 ^ k) j) (subst⁻¹ T (digit_low t j k (member_lt k w.part j w.low z)) (w.subset j z)))
    (or_either (bit c j) (bit w.part j) y))
