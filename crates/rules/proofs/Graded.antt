-- Grades: how those of parts make that of the whole, and what a grade says of a rule.
use mathlib.Core.Path.{◌≡◌, refl, sym, ap, ap₂, ◌∙◌}
use mathlib.Core.Bool.{Bool, true, false, ◌||◌}
use Prim.Native.Nat.{ℕ}
use native.Mathlib.Omega.{arith}
use Rattle.std.specs.Ordering.{ord_max}
use Rattle.tokens.specs.declared.Quantifier.{Quantifier}
use Rattle.tokens.specs.declared.Quantifier.TheVariants.{All, Some}
use Rattle.typed.specs.Grammar.{Typed, named, constant, negated, along, until, and, or, implies}
use Rattle.typed.specs.Records.{timed}
use Rattle.rules.specs.contracts.parts.GradeOrd.TheImpl.{cmp-value}
use Rattle.rules.specs.declared.parts.Grade.{Grade}
use Rattle.rules.specs.declared.parts.Grade.TheVariants.{Plain, Temporal, Refused}
use Rattle.rules.specs.Grades.{worse, under, asked, grade, prefixed, asked_behind}

-- the greater of two grades is the worse of them
pub max_worse : (a b : Grade) → ord_max cmp-value.it a b ≡ worse a b
max_worse Plain Plain = refl
max_worse Plain Temporal = refl
max_worse Plain Refused = refl
max_worse Temporal Plain = refl
max_worse Temporal Temporal = refl
max_worse Temporal Refused = refl
max_worse Refused Plain = refl
max_worse Refused Temporal = refl
max_worse Refused Refused = refl

-- ---- of parts and the whole
pub worse_worse : (a b c : Grade) → worse (worse a b) c ≡ worse a (worse b c)
worse_worse Plain b c = refl
worse_worse Temporal Plain Plain = refl
worse_worse Temporal Plain Temporal = refl
worse_worse Temporal Plain Refused = refl
worse_worse Temporal Temporal Plain = refl
worse_worse Temporal Temporal Temporal = refl
worse_worse Temporal Temporal Refused = refl
worse_worse Temporal Refused c = refl
worse_worse Refused b c = refl

pub worse_refused : (a : Grade) → worse a Refused ≡ Refused
worse_refused Plain = refl
worse_refused Temporal = refl
worse_refused Refused = refl

-- nothing temporal stands under a negation
under_asked : (q : Quantifier) (g : Grade) → under (worse (asked q) g) ≡ Refused
under_asked All Plain = refl
under_asked All Temporal = refl
under_asked All Refused = refl
under_asked Some g = refl

-- a temporal prefix behind others
pub behind_prefixes : (nots : Bool) (g : Grade) (q : Quantifier) (x : Grade) → worse g (prefixed nots (worse (asked q) x)) ≡ worse (worse g (asked_behind nots q)) (prefixed nots x)
behind_prefixes true g q x = ap (worse g) (under_asked q x) ∙ worse_refused g ∙ sym (ap (λ (k : Grade). worse k (under x)) (worse_refused g))
behind_prefixes false g q x = sym (worse_worse g (asked q) x)

-- so where it isn't refused, no negation stands before it
pub none_before : (nots : Bool) (g : Grade) (q : Quantifier) (x : Grade) → (worse g (prefixed nots (worse (asked q) x)) ≡ Refused → ⊥) → nots ≡ false
none_before true g q x n = absurd (n (ap (worse g) (under_asked q x) ∙ worse_refused g))
none_before false g q x n = refl

-- a negation behind others
pub not_behind : (nots : Bool) (g x : Grade) → worse g (prefixed nots (under x)) ≡ worse g (under x)
not_behind true g Plain = refl
not_behind true g Temporal = refl
not_behind true g Refused = refl
not_behind false g x = refl

-- ---- what isn't refused
pub left_right : (a b : Grade) → (worse a b ≡ Refused → ⊥) → a ≡ Refused → ⊥
left_right a b n e = n (ap (λ (g : Grade). worse g b) e)

pub right_right : (a b : Grade) → (worse a b ≡ Refused → ⊥) → b ≡ Refused → ⊥
right_right a b n e = n (ap (worse a) e ∙ worse_refused a)

pub under_right : (a : Grade) → (under a ≡ Refused → ⊥) → a ≡ Plain
under_right Plain n = refl
under_right Temporal n = absurd (n refl)
under_right Refused n = absurd (n refl)

-- behind a negation nothing is temporal
pub prefixed_right : (nots : Bool) (a : Grade) → (prefixed nots a ≡ Refused → ⊥) → a ≡ Refused → ⊥
prefixed_right true a n e = n (ap under e)
prefixed_right false a n e = n e

-- ---- what is plain
both_plain : (a b : Grade) → worse a b ≡ Plain → (a ≡ Plain) × (b ≡ Plain)
both_plain Plain b e = (refl, e)
both_plain Temporal Plain e = let z : ◌≡◌ {A = ℕ} 0 1 = cc in absurd (omega arith)
both_plain Temporal Temporal e = let z : ◌≡◌ {A = ℕ} 0 1 = cc in absurd (omega arith)
both_plain Temporal Refused e = let z : ◌≡◌ {A = ℕ} 0 1 = cc in absurd (omega arith)
both_plain Refused b e = let z : ◌≡◌ {A = ℕ} 0 1 = cc in absurd (omega arith)

asked_plain : (q : Quantifier) → asked q ≡ Plain → ⊥
asked_plain All e = let z : ◌≡◌ {A = ℕ} 0 1 = cc in omega arith
asked_plain Some e = let z : ◌≡◌ {A = ℕ} 0 1 = cc in omega arith

under_plain : (a : Grade) → under a ≡ Plain → a ≡ Plain
under_plain Plain e = refl
under_plain Temporal e = let z : ◌≡◌ {A = ℕ} 0 1 = cc in absurd (omega arith)
under_plain Refused e = let z : ◌≡◌ {A = ℕ} 0 1 = cc in absurd (omega arith)

-- a plain rule has no temporal part
pub untimed : (f : Typed) → grade f ≡ Plain → timed f ≡ false
unfolding grade timed
untimed (named p) e = refl
untimed (constant b) e = refl
untimed (negated f) e = untimed f (under_plain (grade f) e)
untimed (along q o f) e = absurd (asked_plain q (both_plain (asked q) (grade f) e).0)
untimed (until q f g) e = absurd (asked_plain q (both_plain (asked q) (worse (grade f) (grade g)) e).0)
untimed (and f g) e = let w = both_plain (grade f) (grade g) e in ap₂ ◌||◌ (untimed f w.0) (untimed g w.1)
untimed (or f g) e = let w = both_plain (grade f) (grade g) e in ap₂ ◌||◌ (untimed f w.0) (untimed g w.1)
untimed (implies f g) e =
    let w = both_plain (under (grade f)) (grade g) e in
    ap₂ ◌||◌ (untimed f (under_plain (grade f) w.0)) (untimed g w.1)
