-- Nobody has to believe this: chains of parts joined by & or by |, grouped to the left.
use Rattle.tokens.specs.declared.Token.{Token}
use Rattle.tokens.specs.declared.Token.TheVariants.{And, Or}
use Rattle.rules.specs.declared.records.Kind.{Kind}
use Rattle.rules.specs.declared.records.Kind.TheVariants as kind
use Rattle.rules.specs.declared.readers.Connective.{Connective}
use Rattle.rules.specs.declared.readers.Connective.TheVariants as connective
use Rattle.typed.specs.Grammar.{Typed, and, or, Rank, closest, conjunction, disjunction}
use Rattle.typed.specs.Parses.{Goal, more_and, more_or}

-- the sign, the tree, the rank of the chain and that of its parts, what is still to be read of it, and the kind of its record
abbrev pub sign : Connective → Token
sign connective.And = And
sign connective.Or = Or

abbrev pub tree_of : Connective → Typed → Typed → Typed
tree_of connective.And f g = and f g
tree_of connective.Or f g = or f g

abbrev pub whole : Connective → Rank
whole connective.And = conjunction
whole connective.Or = disjunction

abbrev pub inner : Connective → Rank
inner connective.And = closest
inner connective.Or = conjunction

abbrev pub more : Connective → Typed → Goal
more connective.And f = more_and f
more connective.Or f = more_or f

abbrev pub kind_of : Connective → Kind
kind_of connective.And = kind.And
kind_of connective.Or = kind.Or
