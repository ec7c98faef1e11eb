-- Members of a list: tests of all members or of some, members by index, and the members of an image.
use mathlib.Core.Path.{◌≡◌, refl, sym, ap, subst, subst⁻¹}
use mathlib.Core.Bool.{Bool, true, false, ◌&&◌, cond}
use mathlib.Core.Logic.{⊎_elim}
use mathlib.Core.List.Memᴰ.{append_cases as in-append}
use mathlib.Core.List.Memᴰ.{append_left as in_left}
use mathlib.Core.List.Memᴰ.{append_right as in_right}
use mathlib.Core.List.Memᴰ.{cases_cons as in-cases}
use mathlib.Core.List.Memᴰ.{eq_of_singleton as in_one}
use mathlib.Core.List.Memᴰ.{head as here}
use mathlib.Core.List.Memᴰ.{tail as there}
use mathlib.Core.List.{List, [], ◌∷◌, map, flatten, Memᴰ as In}
use Prim.Native.Nat.{ℕ, zero, suc, ◌<◌}
use native.Mathlib.Omega.{arith}
use native.Mathlib.Nat.{not-suc-le-zero}
use lib.Dec.{T, eqb, eqb→eq, eqb_refl}
use lib.ListN.{length, get_or}
use Rattle.model.specs.Positions.{any}
use Rattle.model.specs.Judged.{all}
use Rattle.model.proofs.Bools.{and_both, both_and, or_either, or_left, or_right, T-dec}

module _ {A : Type 0} (p : A → Bool) where
  -- `all` says the test of every member
  pub all_in : {a : A} {l : List A} → In a l → T (all p l) → T (p a)
  unfolding all
  all_in (here {x = x} {xs = xs} e) h = subst⁻¹ (λ (y : A). T (p y)) e (and_both (p x) (all p xs) h).0
  all_in (there {x = x} {xs = xs} i) h = all_in i (and_both (p x) (all p xs) h).1

  pub in_all : (l : List A) → ((a : A) → In a l → T (p a)) → T (all p l)
  unfolding all
  in_all [] h = tt
  in_all (x ∷ xs) h = both_and (p x) (all p xs) (h x (here refl)) (in_all xs (λ a i. h a (there i)))

  -- where `all` fails, some member fails
  not_all_at : (x : A) (xs : List A) → (T (p x && all p xs) → ⊥) → ((T (all p xs) → ⊥) → (a : A) × In a xs × (T (p a) → ⊥)) → Dec (T (p x)) → (a : A) × In a (x ∷ xs) × (T (p a) → ⊥)
  not_all_at x xs h ih (no n) = (x, here refl, n)
  not_all_at x xs h ih (yes y) = let r = ih (λ b. h (both_and (p x) (all p xs) y b)) in (r.0, there r.1, r.2)

  pub not_all : (l : List A) → (T (all p l) → ⊥) → (a : A) × In a l × (T (p a) → ⊥)
  unfolding all
  not_all [] h = absurd (h tt)
  not_all (x ∷ xs) h = not_all_at x xs h (not_all xs) (T-dec (p x))

  -- `any` finds a member
  pub any_in : (l : List A) → T (any p l) → (a : A) × In a l × T (p a)
  unfolding any
  any_in [] h = absurd h
  any_in (x ∷ xs) h =
      ⊎_elim
      (λ (t : T (p x)). (x, here refl, t))
      (λ (t : T (any p xs)). let r = any_in xs t in (r.0, there r.1, r.2))
      (or_either (p x) (any p xs) h)

  pub in_any : {a : A} {l : List A} → In a l → T (p a) → T (any p l)
  unfolding any
  in_any (here {x = x} {xs = xs} e) h = or_left (p x) (any p xs) (subst (λ (y : A). T (p y)) e h)
  in_any (there {x = x} {xs = xs} i) h = or_right (p x) (any p xs) (in_any i h)

-- ---- members and indices
pub get_or_in : {A : Type 0} (l : List A) (j : ℕ) (d : A) → j < length l → In (get_or l j d) l
get_or_in [] j d h = absurd (not-suc-le-zero h)
get_or_in (x ∷ xs) zero d h = here refl
get_or_in (x ∷ xs) (suc j) d h = there (get_or_in xs j d (omega arith))

pub index_in : {A : Type 0} (d : A) {a : A} {l : List A} → In a l → (j : ℕ) × (j < length l) × (get_or l j d ≡ a)
index_in d (here e) = (0, omega arith, sym e)
index_in d (there i) = let r = index_in d i in let h : r.0 < _ = r.1 in (suc r.0, omega arith, r.2)

-- the test of a number against each of a list is membership
pub in_list : {n : ℕ} {l : List ℕ} → In n l → T (any (eqb n) l)
in_list {n} i = in_any (eqb n) i (eqb_refl n)

pub list_in : (n : ℕ) (l : List ℕ) → T (any (eqb n) l) → In n l
list_in n l t = let w = any_in (eqb n) l t in subst⁻¹ (λ (x : ℕ). In x l) (eqb→eq n w.0 w.2) w.1

-- ---- the image of a list
pub in_map : {A B : Type 0} (f : A → B) {a : A} {l : List A} → In a l → In (f a) (map f l)
in_map f (here e) = here (ap f e)
in_map f (there i) = there (in_map f i)

pub of_map : {A B : Type 0} (f : A → B) (b : B) (l : List A) → In b (map f l) → (a : A) × In a l × (f a ≡ b)
of_map f b [] i = elim i [ ]
of_map {A} {B} f b (x ∷ xs) i =
    ⊎_elim
    (λ (e : b ≡ f x). (x, here refl, sym e))
    (λ (j : In b (map f xs)). let w = of_map f b xs j in (w.0, there w.1, w.2))
    (in-cases i)

-- an element of the image
pub get_or_map : {A B : Type 0} (f : A → B) (l : List A) (j : ℕ) (d : A) (e : B) → j < length l → get_or (map f l) j e ≡ f (get_or l j d)
get_or_map f [] j d e h = absurd (not-suc-le-zero h)
get_or_map f (x ∷ xs) zero d e h = refl
get_or_map f (x ∷ xs) (suc j) d e h = get_or_map f xs j d e (omega arith)

-- a list is an image where each member is one
pub all_images : {A B : Type 0} (f : A → B) (l : List B) → ((b : B) → In b l → (a : A) × (b ≡ f a)) → (k : List A) × (l ≡ map f k)
all_images f [] h = ([], refl)
all_images f (x ∷ xs) h =
    let a = h x (here refl) in
    let r = all_images f xs (λ b i. h b (there i)) in
    (a.0 ∷ r.0, cc)

-- a list that isn't empty has a first member
pub first_in : {A : Type 0} (l : List A) → 0 < length l → (a : A) × In a l
first_in [] h = absurd (not-suc-le-zero h)
first_in (x ∷ xs) h = (x, here refl)

-- ---- the lists that stand for the members, one behind the other
pub in_flat : {A B : Type 0} (f : A → List B) {a : A} {b : B} {l : List A} → In a l → In b (f a) → In b (flatten (map f l))
unfolding flatten
in_flat f {b = b} (here {xs = xs} e) j = in_left (flatten (map f xs)) (subst (λ x. In b (f x)) e j)
in_flat f (there {x = x} i) j = in_right (f x) (in_flat f i j)

pub of_flat : {A B : Type 0} (f : A → List B) (b : B) (l : List A) → In b (flatten (map f l)) → (a : A) × In a l × In b (f a)
unfolding flatten
of_flat f b [] i = elim i [ ]
of_flat f b (x ∷ xs) i =
    ⊎_elim
    (λ (j : In b (f x)). (x, here refl, j))
    (λ (j : In b (flatten (map f xs))). let w = of_flat f b xs j in (w.0, there w.1, w.2))
    (in-append (f x) i)

-- the member of a list of one, or of none
pub of_one : {A : Type 0} (b : Bool) (x y : A) → In x (cond b (y ∷ []) []) → T b × (x ≡ y)
of_one true x y i = (tt, in_one i)
of_one false x y i = elim i [ ]
