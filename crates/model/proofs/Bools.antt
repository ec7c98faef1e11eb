-- Tests as propositions: what `T` says of and, or and equal tests.
use mathlib.Core.Path.{◌≡◌, refl}
use mathlib.Core.Bool.{Bool, true, false, not, ◌&&◌, ◌||◌}
use mathlib.Core.Logic.{◌⊎◌, inl, inr}
use lib.Dec.{T}

-- a test that holds is true
pub T_true : (b : Bool) → T b → b ≡ true
T_true true h = refl
T_true false h = absurd h

-- a test that fails is false
pub T_false : (b : Bool) → (T b → ⊥) → b ≡ false
T_false true h = absurd (h tt)
T_false false h = refl

-- both parts of an and hold
pub and_both : (a b : Bool) → T (a && b) → T a × T b
and_both true b h = (tt, h)
and_both false b h = absurd h

-- and an and holds where both do
pub both_and : (a b : Bool) → T a → T b → T (a && b)
both_and true b x y = y
both_and false b x y = absurd x

-- one part of an or holds
pub or_either : (a b : Bool) → T (a || b) → T a ⊎ T b
or_either true b h = inl tt
or_either false b h = inr h

-- an or holds where its first part does
pub or_left : (a b : Bool) → T a → T (a || b)
or_left true b h = tt
or_left false b h = absurd h

-- or its second
pub or_right : (a b : Bool) → T b → T (a || b)
or_right true b h = tt
or_right false b h = h

-- a test holds or fails
unfoldable pub T-dec : (b : Bool) → Dec (T b)
T-dec true = yes tt
T-dec false = no (λ x. x)

-- a test that cannot fail holds
pub stable : (b : Bool) → ((T b → ⊥) → ⊥) → T b
stable true n = tt
stable false n = n (λ x. x)

-- and so does one whose failure fails
pub not_stable : (b : Bool) → (T (not b) → ⊥) → T b
not_stable true n = tt
not_stable false n = n tt

-- two tests that hold together are equal
pub bool_iff : (x y : Bool) → (T x → T y) → (T y → T x) → x ≡ y
bool_iff true true f g = refl
bool_iff true false f g = absurd (f tt)
bool_iff false true f g = absurd (g tt)
bool_iff false false f g = refl
