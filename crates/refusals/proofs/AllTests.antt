-- A test of every element of a list: of another list behind it, and as the library's chains answer it.
use mathlib.Core.Path.{◌≡◌, refl, ap}
use mathlib.Core.Bool.{Bool, true, false, ◌&&◌}
use mathlib.Core.List.{List, [], ◌∷◌, ◌++◌}
use Rattle.std.specs.List.{list_all}
use Rattle.model.specs.Judged.{all}

pub all_append : {A : Type 0} (p : A → Bool) (l m : List A) → all p (l ++ m) ≡ (all p l && all p m)
unfolding all
all_append p [] m = refl
all_append p (a ∷ l) m = by (p a) (all_append p l m)
  where
    by : (b : Bool) → all p (l ++ m) ≡ (all p l && all p m) → (b && all p (l ++ m)) ≡ ((b && all p l) && all p m)
    by true e = e
    by false e = refl

pub all_is_list_all : {A : Type 0} (p : A → Bool) (xs : List A) → all p xs ≡ list_all p xs
unfolding all
all_is_list_all p [] = refl
all_is_list_all p (x ∷ xs) = ap (λ b. p x && b) (all_is_list_all p xs)
