-- One rule more at the end: its records, its number and its grade stand behind those of the others.
use mathlib.Core.Path.{◌≡◌, refl, sym, ap, ◌∙◌}
use mathlib.Core.List.{List, [], ◌∷◌, ◌++◌, append_assoc, append-nil, map-append}
use Prim.Native.Nat.{ℕ, ◌+◌}
use native.Mathlib.Omega.{arith}
use Rattle.model.specs.Actl.{Actl}
use Rattle.model.specs.Formulas.{Form}
use Rattle.typed.specs.Grammar.{Typed}
use Rattle.typed.specs.Records.{formula_for, size, sizes, records, all_records, rules_from, last}
use Rattle.rules.specs.declared.parts.Grade.{Grade}
use Rattle.rules.specs.declared.parts.Grade.TheVariants.{Plain, Temporal, Refused}
use Rattle.rules.specs.Grades.{worse, grade, grades}
use Rattle.rules.specs.Rules.{formulas_for}
use Rattle.rules.proofs.Graded.{worse_worse}

pub sizes_more : (rules : List Actl) (a : Actl) → sizes (rules ++ (a ∷ [])) ≡ sizes rules + size a
unfolding sizes
sizes_more [] a = omega arith
sizes_more (b ∷ rules) a = ap (λ (k : ℕ). size b + k) (sizes_more rules a) ∙ omega arith

pub records_more : (n : ℕ) (rules : List Actl) (a : Actl) → all_records n (rules ++ (a ∷ [])) ≡ all_records n rules ++ records (n + sizes rules) a
unfolding sizes all_records
records_more n [] a =
    let z : n ≡ n + 0 = omega arith in
    append-nil (records n a) ∙ ap (λ (k : ℕ). records k a) z
records_more n (b ∷ rules) a =
    let z : n + size b + sizes rules ≡ n + (size b + sizes rules) = omega arith in
    ap (λ (fs : List Form). records n b ++ fs) (records_more (n + size b) rules a ∙ ap (λ (k : ℕ). all_records (n + size b) rules ++ records k a) z)
    ∙ sym (append_assoc (records n b) (all_records (n + size b) rules) (records (n + (size b + sizes rules)) a))

pub rules_more : (n : ℕ) (rules : List Actl) (a : Actl) → rules_from n (rules ++ (a ∷ [])) ≡ rules_from n rules ++ (last (n + sizes rules) a ∷ [])
unfolding sizes rules_from
rules_more n [] a =
    let z : n ≡ n + 0 = omega arith in
    ap (λ (k : ℕ). last k a ∷ []) z
rules_more n (b ∷ rules) a =
    let z : n + size b + sizes rules ≡ n + (size b + sizes rules) = omega arith in
    ap (λ (rs : List ℕ). last n b ∷ rs) (rules_more (n + size b) rules a ∙ ap (λ (k : ℕ). rules_from (n + size b) rules ++ (last k a ∷ [])) z)

pub formulas_more : (fs : List Typed) (f : Typed) → formulas_for (fs ++ (f ∷ [])) ≡ formulas_for fs ++ (formula_for f ∷ [])
formulas_more fs f = map-append formula_for fs (f ∷ [])

worse_plain : (g : Grade) → worse g Plain ≡ g
worse_plain Plain = refl
worse_plain Temporal = refl
worse_plain Refused = refl

pub grades_more : (fs : List Typed) (f : Typed) → grades (fs ++ (f ∷ [])) ≡ worse (grades fs) (grade f)
unfolding grades
grades_more [] f = worse_plain (grade f)
grades_more (e ∷ fs) f = ap (worse (grade e)) (grades_more fs f) ∙ sym (worse_worse (grade e) (grades fs) (grade f))
