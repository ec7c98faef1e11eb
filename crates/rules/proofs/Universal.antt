-- A rule is allowed by its grade exactly where it is universal.
use mathlib.Core.Path.{◌≡◌, refl, sym, ap, ap₂, ◌∙◌}
use mathlib.Core.Bool.{Bool, true, false, not, ◌&&◌, ◌||◌, or_assoc}
use mathlib.Core.List.{List, [], ◌∷◌}
use Rattle.model.specs.Judged.{all}
use Rattle.tokens.specs.declared.Quantifier.{Quantifier}
use Rattle.tokens.specs.declared.Quantifier.TheVariants.{All, Some}
use Rattle.typed.specs.Grammar.{Typed, named, constant, negated, along, until, and, or, implies}
use Rattle.typed.specs.Records.{on_some, some_path, timed, misplaced, universal}
use Rattle.rules.specs.declared.parts.Grade.{Grade}
use Rattle.rules.specs.declared.parts.Grade.TheVariants.{Plain, Temporal, Refused}
use Rattle.rules.specs.Grades.{worse, under, asked, grade, grades, allowed}

-- the grade, by whether 20 refuses and whether a part is temporal
abbrev graded_by : Bool → Bool → Grade
graded_by true t = Refused
graded_by false true = Temporal
graded_by false false = Plain

-- of two parts
worse_by : (a t b u : Bool) → worse (graded_by a t) (graded_by b u) ≡ graded_by (a || b) (t || u)
worse_by true t b u = refl
worse_by false true true u = refl
worse_by false true false true = refl
worse_by false true false false = refl
worse_by false false b u = refl

-- under a negation, where 20 refuses for one reason or the other
under_by : (s m t : Bool) → under (graded_by (s || m) t) ≡ graded_by (s || (t || m)) t
under_by true m t = refl
under_by false true true = refl
under_by false true false = refl
under_by false false true = refl
under_by false false false = refl

-- of a quantifier
asked_by : (q : Quantifier) → asked q ≡ graded_by (on_some q) true
asked_by All = refl
asked_by Some = refl

-- two pairs, firsts and seconds together
regroup : (a b c d : Bool) → ((a || b) || (c || d)) ≡ ((a || c) || (b || d))
regroup true b c d = refl
regroup false true true d = refl
regroup false true false d = refl
regroup false false c d = refl

-- a rule's grade says both
grade_by : (f : Typed) → grade f ≡ graded_by (some_path f || misplaced f) (timed f)
unfolding grade some_path misplaced timed
grade_by (named p) = refl
grade_by (constant b) = refl
grade_by (negated f) = rw (grade_by f, under_by)
grade_by (along q o f) = rw (asked_by, grade_by f, worse_by, or_assoc)
grade_by (until q f g) = rw (asked_by, grade_by f, grade_by g, worse_by (some_path f || misplaced f), worse_by, regroup (some_path f) (misplaced f), or_assoc (on_some q))
grade_by (and f g) = rw (grade_by f, grade_by g, worse_by, regroup (some_path f) (misplaced f))
grade_by (or f g) = rw (grade_by f, grade_by g, worse_by, regroup (some_path f) (misplaced f))
grade_by (implies f g) = rw (grade_by f, grade_by g, under_by, worse_by, regroup (some_path f) (timed f || misplaced f), or_assoc (timed f))

-- what isn't refused is allowed
allowed_by : (a t : Bool) → not a ≡ allowed (graded_by a t)
allowed_by true t = refl
allowed_by false true = refl
allowed_by false false = refl

-- so it says whether 20 refuses
pub universal_grade : (f : Typed) → universal f ≡ allowed (grade f)
unfolding universal
universal_grade f = allowed_by (some_path f || misplaced f) (timed f) ∙ ap allowed (sym (grade_by f))

-- two parts are allowed where both are
both_allowed : (a b : Grade) → (allowed a && allowed b) ≡ allowed (worse a b)
both_allowed Plain b = refl
both_allowed Temporal Plain = refl
both_allowed Temporal Temporal = refl
both_allowed Temporal Refused = refl
both_allowed Refused b = refl

-- and so for several rules
pub all_universal : (fs : List Typed) → all universal fs ≡ allowed (grades fs)
unfolding all grades
all_universal [] = refl
all_universal (f ∷ fs) = ap₂ ◌&&◌ (universal_grade f) (all_universal fs) ∙ both_allowed (grade f) (grades fs)
