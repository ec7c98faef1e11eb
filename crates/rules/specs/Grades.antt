-- Nobody has to believe this: what 20 says of a part, as a grade. (`proofs/Universal` shows that a rule is refused exactly where its grade says so.)
use Rattle.std.specs.Prelude.{Bool, true, false, List, [], ◌∷◌}
use Rattle.tokens.specs.declared.Quantifier.{Quantifier}
use Rattle.tokens.specs.declared.Quantifier.TheVariants.{All, Some}
use Rattle.typed.specs.Grammar.{Typed, named, constant, negated, along, until, and, or, implies}
use Rattle.rules.specs.declared.parts.Grade.{Grade}
use Rattle.rules.specs.declared.parts.Grade.TheVariants.{Plain, Temporal, Refused}

abbrev pub worse : Grade → Grade → Grade
worse Plain g = g
worse Temporal Plain = Temporal
worse Temporal Temporal = Temporal
worse Temporal Refused = Refused
worse Refused g = Refused

-- under a negation, or left of an arrow
abbrev pub under : Grade → Grade
under Plain = Plain
under Temporal = Refused
under Refused = Refused

-- what a quantifier asks for
abbrev pub asked : Quantifier → Grade
asked All = Temporal
asked Some = Refused

unfoldable pub grade : Typed → Grade
grade (named p) = Plain
grade (constant b) = Plain
grade (negated f) = under (grade f)
grade (along q o f) = worse (asked q) (grade f)
grade (until q f g) = worse (asked q) (worse (grade f) (grade g))
grade (and f g) = worse (grade f) (grade g)
grade (or f g) = worse (grade f) (grade g)
grade (implies f g) = worse (under (grade f)) (grade g)

-- behind prefixes of which some are negations, or none
abbrev pub prefixed : Bool → Grade → Grade
prefixed true g = under g
prefixed false g = g

-- a quantifier behind such prefixes
abbrev pub asked_behind : Bool → Quantifier → Grade
asked_behind true q = Refused
asked_behind false q = asked q

-- of several rules
unfoldable pub grades : List Typed → Grade
grades [] = Plain
grades (f ∷ fs) = worse (grade f) (grades fs)

-- 20 doesn't refuse it
abbrev pub allowed : Grade → Bool
allowed Plain = true
allowed Temporal = true
allowed Refused = false
