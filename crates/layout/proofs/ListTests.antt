-- The model's tests of lists are std's, and so are the tests over the first elements of a list.
use Rattle.std.proofs.Common.{◌≡◌, ℕ, zero, suc, ◌≤◌, Bool, true, false, not, ◌&&◌, ◌||◌, List, [], ◌∷◌, length, get_or, take, sym, refl, ap, ◌∙◌, add-one, arith}
use Rattle.std.specs.Bool.{Decides}
use Rattle.std.specs.Cmp.Lexicographic.{pointwise}
use Rattle.std.specs.Ordering.{int_eq}
use Rattle.std.specs.List.{list_all, list_any}
use Rattle.std.proofs.lemmas.List.Folds.{list_all_more, list_any_more}
use Rattle.std.proofs.lemmas.Bool.Decides.{same_from_decides, Decides-int_eq}
use Rattle.std.proofs.lemmas.Slice.Eq.{slice_eq-Decides}
use Rattle.model.specs.Events.{Event}
use Rattle.model.specs.Judged.{all, same_events}
use Rattle.model.proofs.Bools.{T_true}
use Rattle.model.proofs.JointMoves.{same_events_eq, eq_same_events}
use Rattle.layout.specs.Tables.{every}
use Rattle.layout.proofs.Tables.{true_T}

pub all_is_list_all : {A : Type 0} → (p : A → Bool) → (xs : List A) → all p xs ≡ list_all p xs
unfolding all
all_is_list_all p [] = refl
all_is_list_all p (x ∷ xs) = ap (λ b. p x && b) (all_is_list_all p xs)

-- lists of events, compared by `==`
same_events_decides : (es fs : List Event) → Decides (same_events es fs) (es ≡ fs)
same_events_decides es fs = (λ e. same_events_eq es fs (true_T _ e), λ e. T_true _ (eq_same_events es fs e))

pub pointwise_is_same_events : (es fs : List Event) → pointwise int_eq es fs ≡ same_events es fs
pointwise_is_same_events es fs =
    same_from_decides _ _ (slice_eq-Decides Decides-int_eq es fs (pointwise int_eq es fs) refl) (same_events_decides es fs)

-- ---- the first n elements: all of them pass, or one does
or_not : (a b : Bool) → (not a || b) ≡ not (a && not b)
or_not true true = refl
or_not true false = refl
or_not false b = refl

module _ {A : Type 0} (p : A → Bool) (d : A) (l : List A) where
  pub first_all : (n : ℕ) → n ≤ length l → list_all p (take n l) ≡ every n (λ k. p (get_or l k d))
  unfolding every
  first_all zero h = refl
  first_all (suc n) h =
      ap (λ k. list_all p (take k l)) (sym (add-one n)) ∙ list_all_more p l n d h ∙ ap (λ b. b && p (get_or l n d)) (first_all n (omega arith))

  pub first_any : (n : ℕ) → n ≤ length l → list_any p (take n l) ≡ not (every n (λ k. not (p (get_or l k d))))
  unfolding every
  first_any zero h = refl
  first_any (suc n) h =
      ap (λ k. list_any p (take k l)) (sym (add-one n))
      ∙ list_any_more p l n d h
      ∙ ap (λ b. b || p (get_or l n d)) (first_any n (omega arith))
      ∙ or_not (every n (λ k. not (p (get_or l k d)))) (p (get_or l n d))
