-- Finite enumerations: tables, products of lists, and decisions over the members of a list.
use mathlib.Core.Path.{◌≡◌, refl, sym, ap, ap₂, subst, subst⁻¹, ◌∙◌}
use mathlib.Core.Bool.{Bool, true, false}
use mathlib.Core.Logic.{⊎_elim}
use mathlib.Core.List.Memᴰ
use mathlib.Core.List.Memᴰ.{cases_cons as in-cases}
use mathlib.Core.List.Memᴰ.{head as here}
use mathlib.Core.List.Memᴰ.{tail as there}
use mathlib.Core.List.{List, [], ◌∷◌, ◌++◌, map, Memᴰ as In}
use Prim.Native.Nat.{ℕ, zero, suc, ◌+◌, ◌*◌, ◌<◌}
use native.Mathlib.Omega.{arith}
use native.Mathlib.Nat.{not-suc-le-zero, suc-mul}
use lib.Dec.{T}
use lib.ListN.{length, get_or, length-append, length-map}
use Rattle.model.proofs.Lists.{in_map, of_map}

-- ---- decisions
unfoldable pub decide : {P : Type 0} → Dec P → Bool
decide (yes p) = true
decide (no n) = false

pub decided : {P : Type 0} (d : Dec P) → T (decide d) → P
unfolding decide
decided (yes p) t = p
decided (no n) t = absurd t

pub deciding : {P : Type 0} (d : Dec P) → P → T (decide d)
unfolding decide
deciding (yes p) q = tt
deciding (no n) q = n q

pub both? : {P Q : Type 0} → Dec P → Dec Q → Dec (P × Q)
both? (yes p) (yes q) = yes (p, q)
both? (yes p) (no m) = no (λ w. m w.1)
both? (no n) e = no (λ w. n w.0)

pub not? : {P : Type 0} → Dec P → Dec (P → ⊥)
not? (yes p) = no (λ n. n p)
not? (no n) = yes n

pub implies? : {P Q : Type 0} → Dec P → Dec Q → Dec (P → Q)
implies? d (yes q) = yes (λ p. q)
implies? (yes p) (no m) = no (λ f. m (f p))
implies? (no n) (no m) = yes (λ p. absurd (n p))

module _ {A : Type 0} (P : A → Type 0) (p? : (a : A) → Dec (P a)) where
  some_at : (x : A) (xs : List A) → Dec (P x) → Dec ((a : A) × In a xs × P a) → Dec ((a : A) × In a (x ∷ xs) × P a)
  some_at x xs (yes p) r = yes (x, here refl, p)
  some_at x xs (no n) (yes w) = yes (w.0, there w.1, w.2)
  some_at x xs (no n) (no m) = no (λ w. ⊎_elim (λ (e : w.0 ≡ x). n (subst P e w.2)) (λ (i : In w.0 xs). m (w.0, i, w.2)) (in-cases w.1))

  -- some member has the property
  pub some? : (l : List A) → Dec ((a : A) × In a l × P a)
  some? [] = no (λ w. elim w.1 [ ])
  some? (x ∷ xs) = some_at x xs (p? x) (some? xs)

  each_at : (x : A) (xs : List A) → Dec (P x) → Dec ((a : A) → In a xs → P a) → Dec ((a : A) → In a (x ∷ xs) → P a)
  each_at x xs (no n) r = no (λ f. n (f x (here refl)))
  each_at x xs (yes p) (no m) = no (λ f. m (λ a i. f a (there i)))
  each_at x xs (yes p) (yes f) = yes (λ a i. ⊎_elim (λ (e : a ≡ x). subst⁻¹ P e p) (λ (j : In a xs). f a j) (in-cases i))

  -- every member has the property
  pub each? : (l : List A) → Dec ((a : A) → In a l → P a)
  each? [] = yes (λ a i. elim i [ ])
  each? (x ∷ xs) = each_at x xs (p? x) (each? xs)

-- ---- tables
unfoldable pub tabulate : {A : Type 0} → ℕ → (ℕ → A) → List A
tabulate zero f = []
tabulate (suc n) f = f 0 ∷ tabulate n (λ k. f (suc k))

pub tabulate_length : {A : Type 0} (n : ℕ) (f : ℕ → A) → length (tabulate n f) ≡ n
unfolding tabulate
tabulate_length zero f = refl
tabulate_length (suc n) f = ap suc (tabulate_length n (λ k. f (suc k)))

pub tabulate_at : {A : Type 0} (n : ℕ) (f : ℕ → A) (k : ℕ) (d : A) → k < n → get_or (tabulate n f) k d ≡ f k
unfolding tabulate
tabulate_at zero f k d h = absurd (not-suc-le-zero h)
tabulate_at (suc n) f zero d h = refl
tabulate_at (suc n) f (suc k) d h = tabulate_at n (λ j. f (suc j)) k d (omega arith)

pub in_tabulate : {A : Type 0} (n : ℕ) (f : ℕ → A) (k : ℕ) → k < n → In (f k) (tabulate n f)
unfolding tabulate
in_tabulate zero f k h = absurd (not-suc-le-zero h)
in_tabulate (suc n) f zero h = here refl
in_tabulate (suc n) f (suc k) h = there (in_tabulate n (λ j. f (suc j)) k (omega arith))

pub of_tabulate : {A : Type 0} (n : ℕ) (f : ℕ → A) (a : A) → In a (tabulate n f) → (k : ℕ) × (k < n) × (f k ≡ a)
unfolding tabulate
of_tabulate zero f a i = elim i [ ]
of_tabulate {A} (suc n) f a i =
    ⊎_elim
    (λ (e : a ≡ f 0). (0, omega arith, sym e))
    (λ (j : In a (tabulate n (λ k. f (suc k)))). let w = of_tabulate n (λ k. f (suc k)) a j in let h : w.0 < n = w.1 in (suc w.0, omega arith, w.2))
    (in-cases i)

-- the numbers below n, in order
unfoldable pub upto : ℕ → List ℕ
upto n = tabulate n (λ k. k)

pub in_upto : (n k : ℕ) → k < n → In k (upto n)
unfolding upto
in_upto n k h = in_tabulate n (λ j. j) k h

pub of_upto : (n k : ℕ) → In k (upto n) → k < n
unfolding upto
of_upto n k i = let w = of_tabulate n (λ j. j) k i in subst (λ (x : ℕ). x < n) w.2 w.1

-- ---- products
module _ {A B C : Type 0} (f : A → B → C) where
  unfoldable pub product : List A → List B → List C
  product [] ys = []
  product (x ∷ xs) ys = map (f x) ys ++ product xs ys

  pub product_length : (xs : List A) (ys : List B) → length (product xs ys) ≡ length xs * length ys
  unfolding product
  product_length [] ys = sym (native.Mathlib.Nat.zero-mul (length ys))
  product_length (x ∷ xs) ys =
      length-append (map (f x) ys) (product xs ys) ∙ ap₂ ◌+◌ (length-map ys (f x)) (product_length xs ys) ∙ native.Mathlib.Nat.add_comm (length ys) (length xs * length ys) ∙ sym (suc-mul (length xs) (length ys))

  pub in_product : {a : A} {b : B} {xs : List A} {ys : List B} → In a xs → In b ys → In (f a b) (product xs ys)
  unfolding product
  in_product {b = b} {ys = ys} (here {x = x} {xs = xs} e) j = Memᴰ.append_left (product xs ys) (subst⁻¹ (λ (y : A). In (f y b) (map (f x) ys)) e (in_map (f x) j))
  in_product {ys = ys} (there {x = x} i) j = Memᴰ.append_right (map (f x) ys) (in_product i j)

  pub of_product : (xs : List A) (ys : List B) (c : C) → In c (product xs ys) → (a : A) × (b : B) × In a xs × In b ys × (f a b ≡ c)
  unfolding product
  of_product [] ys c i = elim i [ ]
  of_product (x ∷ xs) ys c i =
      ⊎_elim
      (λ (j : In c (map (f x) ys)). let w = of_map (f x) c ys j in (x, w.0, here refl, w.1, w.2))
      (λ (j : In c (product xs ys)). let w = of_product xs ys c j in (w.0, w.1, there w.2, w.3, w.4))
      (Memᴰ.append_cases (map (f x) ys) i)

-- a list that begins with a
abbrev pub Begins : {A : Type 0} → A → List A → Type 0
Begins {A} a l = (r : List A) × (l ≡ a ∷ r)

pub product_begins : {A B C : Type 0} (f : A → B → C) {a : A} {b : B} {xs : List A} {ys : List B} → Begins a xs → Begins b ys → Begins (f a b) (product f xs ys)
unfolding product
product_begins f {a} {b} p q = (map (f a) q.0 ++ product f p.0 (b ∷ q.0), ap₂ (λ x y. product f x y) p.1 q.1)
