-- A match on a token: what its arms say of the token.
use mathlib.Core.Path.{◌≡◌, refl}
use mathlib.Core.Bool.{false}
use Rattle.tokens.specs.declared.Operator.{Operator}
use Rattle.tokens.specs.declared.Quantifier.{Quantifier}
use Rattle.tokens.specs.declared.Token.{Token}
use Rattle.tokens.specs.declared.Token.TheVariants.{Name, True, False, Not, Temporal, Path, Until, And, Or, Implies, Open, Close, OpenSquare, CloseSquare, Line, End, Wrong}
use Rattle.rules.specs.Reading.{is_prefix}

-- the token is neither ! nor a temporal operator
pub not_prefix : (t : Token) → (t ≡ Not → ⊥) → ((q : Quantifier) (o : Operator) → t ≡ Temporal q o → ⊥) → is_prefix t ≡ false
not_prefix (Name p) n m = refl
not_prefix True n m = refl
not_prefix False n m = refl
not_prefix Not n m = absurd (n refl)
not_prefix (Temporal q o) n m = absurd (m q o refl)
not_prefix (Path q) n m = refl
not_prefix Until n m = refl
not_prefix And n m = refl
not_prefix Or n m = refl
not_prefix Implies n m = refl
not_prefix Open n m = refl
not_prefix Close n m = refl
not_prefix OpenSquare n m = refl
not_prefix CloseSquare n m = refl
not_prefix Line n m = refl
not_prefix End n m = refl
not_prefix Wrong n m = refl
