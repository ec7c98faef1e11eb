-- Tables by number and tests over them: length, entries, and how a loop that tests one number after another finds the answer.
use Rattle.std.proofs.Common.{◌≡◌, ℕ, zero, suc, ◌+◌, ◌<◌, ◌≤◌, Bool, true, false, not, ◌&&◌, T, List, ◌∷◌, map, length, get_or, set, sym, refl, ap, ◌∙◌, subst, ap₂, not-suc-le-zero, arith, T_not, length-set, get_or-set_other, get_or-set_same, ext_get_or, below_more}
use mathlib.Core.Path.{subst⁻¹}
use native.Mathlib.Decide.{ℕ_discrete, dec_lt}
use lib.Dec.{not_T}
use lib.ListN.{length-map, get_or-map}
use Rattle.model.specs.Judged.{all}
use Rattle.model.proofs.Bools.{T_true, T_false, and_both, both_and}
use Rattle.model.proofs.Lists.{all_in, in_all, get_or_in, index_in}
use Rattle.layout.specs.Tables.{table, table_from, every, distinct}

-- ---- tests as equations, which is how code tells them
pub true_T : (b : Bool) → b ≡ true → T b
true_T b e = subst⁻¹ T e tt

pub false_T : (b : Bool) → b ≡ false → T b → ⊥
false_T b e t = subst T e t

pub and_unit : (a : Bool) → (a && true) ≡ a
and_unit true = refl
and_unit false = refl

pub and_false : (a b : Bool) → a ≡ false → (a && b) ≡ false
and_false a b e = ap (λ x. x && b) e

pub and_false_right : (a b : Bool) → b ≡ false → (a && b) ≡ false
and_false_right a b e = T_false (a && b) (λ t. false_T b e (and_both a b t).1)

pub and_true : (a b : Bool) → a ≡ true → b ≡ true → (a && b) ≡ true
and_true a b p q = T_true (a && b) (both_and a b (true_T a p) (true_T b q))

pub and_left : (a b : Bool) → (a && b) ≡ true → a ≡ true
and_left a b e = T_true a (and_both a b (true_T (a && b) e)).0

pub and_right : (a b : Bool) → (a && b) ≡ true → b ≡ true
and_right a b e = T_true b (and_both a b (true_T (a && b) e)).1

-- ---- each number below n
module _ (p : ℕ → Bool) where
  pub each_every : (n : ℕ) → ((k : ℕ) → k < n → T (p k)) → T (every n p)
  unfolding every
  each_every zero f = tt
  each_every (suc n) f = both_and (every n p) (p n) (each_every n (λ k h. f k (omega arith))) (f n (omega arith))

  pub every_each : (n : ℕ) → T (every n p) → (k : ℕ) → k < n → T (p k)
  unfolding every
  every_each zero t k h = absurd (not-suc-le-zero h)
  every_each (suc n) t k h =
      let w = and_both (every n p) (p n) t in
      elim (ℕ_discrete k n) [ yes e ↦ subst⁻¹ (λ j. T (p j)) e w.1 | no ne ↦ every_each n w.0 k (omega arith) ]

  pub every_true : (n : ℕ) → ((k : ℕ) → k < n → p k ≡ true) → every n p ≡ true
  every_true n f = T_true (every n p) (each_every n (λ k h. true_T (p k) (f k h)))

  pub every_false : (n k : ℕ) → k < n → p k ≡ false → every n p ≡ false
  every_false n k h e = T_false (every n p) (λ t. false_T (p k) e (every_each n t k h))

  pub every_at : (n : ℕ) → every n p ≡ true → (k : ℕ) → k < n → p k ≡ true
  every_at n e k h = T_true (p k) (every_each n (true_T (every n p) e) k h)

-- ---- each element of a list, by index
module _ {A : Type 0} (p : A → Bool) (d : A) where
  pub all_true : (l : List A) → ((k : ℕ) → k < length l → p (get_or l k d) ≡ true) → all p l ≡ true
  all_true l f =
      T_true (all p l) (in_all p l (λ a i. let w = index_in d i in true_T (p a) (ap p (sym w.2) ∙ f w.0 w.1)))

  pub all_false : (l : List A) (k : ℕ) → k < length l → p (get_or l k d) ≡ false → all p l ≡ false
  all_false l k h e = T_false (all p l) (λ t. false_T (p (get_or l k d)) e (all_in p (get_or_in l k d h) t))

  pub all_at : (l : List A) → all p l ≡ true → (k : ℕ) → k < length l → p (get_or l k d) ≡ true
  all_at l e k h = T_true (p (get_or l k d)) (all_in p (get_or_in l k d h) (true_T (all p l) e))

-- ---- no two the same, by a test that is symmetric
module _ (same : ℕ → ℕ → Bool) (swap : (j k : ℕ) → T (same j k) → T (same k j)) where
  -- a lower number and a higher one
  apart : (n : ℕ) → T (distinct n same) → (j k : ℕ) → j < k → k < n → T (same j k) → ⊥
  unfolding distinct
  apart n t j k h hk s =
      T_not (same j k) (every_each (λ i. not (same i k)) k (every_each (λ k. every k (λ i. not (same i k))) n t k hk) j h) s

  pub distinct_once : (n : ℕ) → T (distinct n same) → (j k : ℕ) → j < n → k < n → T (same j k) → j ≡ k
  distinct_once n t j k hj hk s =
      elim (ℕ_discrete j k) [
        | yes e ↦ e
        | no ne ↦
            absurd (elim (dec_lt j k) [ yes l ↦ apart n t j k l hk s | no nl ↦ apart n t k j (omega arith) hj (swap j k s) ])
      ]

  pub once_distinct : (n : ℕ) → ((j k : ℕ) → j < n → k < n → T (same j k) → j ≡ k) → T (distinct n same)
  unfolding distinct
  once_distinct n f =
      each_every (λ j. every j (λ i. not (same i j))) n
      (λ j hj. each_every (λ i. not (same i j)) j (λ i hi. not_T (same i j) (λ s. let e : i ≡ j = f i j (omega arith) hj s in omega arith)))

-- ---- tables
module _ {A : Type 0} (f : ℕ → A) where
  length_from : (i n : ℕ) → length (table_from f i n) ≡ n
  unfolding table_from
  length_from i zero = refl
  length_from i (suc n) = ap suc (length_from (suc i) n)

  pub length_table : (n : ℕ) → length (table n f) ≡ n
  unfolding table
  length_table n = length_from 0 n

  entry_from : (d : A) (i n k : ℕ) → k < n → get_or (table_from f i n) k d ≡ f (i + k)
  unfolding table_from
  entry_from d i zero k h = absurd (not-suc-le-zero h)
  entry_from d i (suc n) zero h = ap f (omega arith)
  entry_from d i (suc n) (suc k) h = entry_from d (suc i) n k (omega arith) ∙ ap f (omega arith)

  -- entry k
  pub entry : (d : A) (n k : ℕ) → k < n → get_or (table n f) k d ≡ f k
  unfolding table
  entry d n k h = entry_from d 0 n k h ∙ ap f (omega arith)

-- tables of the same entries
from_same : {A : Type 0} (f g : ℕ → A) (i n : ℕ) → ((k : ℕ) → k < n → f (i + k) ≡ g (i + k)) → table_from f i n ≡ table_from g i n
unfolding table_from
from_same f g i zero e = refl
from_same f g i (suc n) e =
    let z : i + 0 ≡ i = omega arith in
    ap₂ ◌∷◌ (sym (ap f z) ∙ e 0 (omega arith) ∙ ap g z)
    (from_same f g (suc i) n (λ k h. let s : i + suc k ≡ suc i + k = omega arith in sym (ap f s) ∙ e (suc k) (omega arith) ∙ ap g s))

pub table_same : {A : Type 0} (f g : ℕ → A) (n : ℕ) → ((k : ℕ) → k < n → f k ≡ g k) → table n f ≡ table n g
unfolding table
table_same f g n e = from_same f g 0 n (λ k h. let z : 0 + k ≡ k = omega arith in ap f z ∙ e k h ∙ sym (ap g z))

-- a list is the table of its entries
pub as_table : {A : Type 0} (d : A) (n : ℕ) (l : List A) → length l ≡ n → l ≡ table n (λ k. get_or l k d)
as_table d n l e =
    ext_get_or d l (table n (λ k. get_or l k d)) (e ∙ sym (length_table (λ k. get_or l k d) n)) (λ k h. sym (entry (λ j. get_or l j d) d n k (omega arith)))

-- ---- a list filled from the front, entry after entry, as a loop does it: its first i entries are those of f
module _ {A : Type 0} (d : A) (f : ℕ → A) (n : ℕ) where
  pub record FilledTo (i : ℕ) (l : List A) : Type 0 where
    pub room : length l ≡ n
    pub each : (j : ℕ) → j < i → get_or l j d ≡ f j

  pub filled_none : (l : List A) → length l ≡ n → FilledTo 0 l
  filled_none l e = record { room = e; each = λ j h. absurd (not-suc-le-zero h) }

  pub filled_more : (i : ℕ) (l : List A) (v : A) → i < n → FilledTo i l → v ≡ f i → FilledTo (i + 1) (set l i v)
  filled_more i l v h t e =
      record {
        room = length-set l i v ∙ t.room;
        each = below_more (λ j. get_or (set l i v) j d ≡ f j) i
            (λ j u. get_or-set_other l i j v d (λ q. omega arith) ∙ t.each j u)
            (get_or-set_same l i v d (omega (arith, t.room)) ∙ e);
      }

  pub filled_all : (i : ℕ) (l : List A) → n ≤ i → FilledTo i l → l ≡ table n f
  filled_all i l h t =
      ext_get_or d l (table n f) (t.room ∙ sym (length_table f n)) (λ j u. let v : j < n = omega (arith, t.room) in t.each j (omega arith) ∙ sym (entry f d n j v))

-- a map by number
pub table_map : {A B : Type 0} (f : A → B) (d : A) (l : List A) (n : ℕ) → length l ≡ n → table n (λ j. f (get_or l j d)) ≡ map f l
table_map f d l n e =
    ext_get_or (f d) (table n (λ j. f (get_or l j d))) (map f l) (length_table (λ j. f (get_or l j d)) n ∙ sym e ∙ sym (length-map l f))
    (λ j h. entry (λ j. f (get_or l j d)) (f d) n j (omega (arith, length_table (λ j. f (get_or l j d)) n)) ∙ sym (get_or-map f l j d))
