-- How each word and sign is written, as `proofs/Spelling.antt` shows that `word_of` and `sign_of` of `Tokens` read them. Bytes are ASCII.
use Rattle.std.specs.Prelude.{cond, List, [], ◌∷◌, ℕ, ◌+◌, ◌/◌, ◌%◌, ◌≤◌, ltb}
use Rattle.layout.specs.Sizes.{last_proposition}
use Rattle.tokens.specs.declared.Quantifier.{Quantifier}
use Rattle.tokens.specs.declared.Quantifier.TheVariants.{All, Some}
use Rattle.tokens.specs.declared.Operator.{Operator}
use Rattle.tokens.specs.declared.Operator.TheVariants.{Next, Always, Eventually}
use Rattle.tokens.specs.declared.Token.{Token}
use Rattle.tokens.specs.declared.Token.TheVariants.{Name, True, False, Not, Temporal, Path, Until, And, Or, Implies, Open, Close, OpenSquare, CloseSquare, Line, End, Wrong}

-- A, E
unfoldable pub quantifier_letter : Quantifier → ℕ
quantifier_letter All = 65
quantifier_letter Some = 69

-- X, G, F
unfoldable pub operator_letter : Operator → ℕ
operator_letter Next = 88
operator_letter Always = 71
operator_letter Eventually = 70

-- in decimal: one digit, or two
unfoldable pub number : ℕ → List ℕ
number p = cond (ltb p 10) ((p + 48) ∷ []) ((p / 10 + 48) ∷ (p % 10 + 48) ∷ [])

-- the bytes of a token
unfoldable pub spelling : Token → List ℕ
spelling (Name p) = 112 ∷ number p
spelling True = 84 ∷ 82 ∷ 85 ∷ 69 ∷ []
spelling False = 70 ∷ 65 ∷ 76 ∷ 83 ∷ 69 ∷ []
spelling Not = 33 ∷ []
spelling (Temporal q o) = quantifier_letter q ∷ operator_letter o ∷ []
spelling (Path q) = quantifier_letter q ∷ []
spelling Until = 85 ∷ []
spelling And = 38 ∷ []
spelling Or = 124 ∷ []
spelling Implies = 45 ∷ 62 ∷ []
spelling Open = 40 ∷ []
spelling Close = 41 ∷ []
spelling OpenSquare = 91 ∷ []
spelling CloseSquare = 93 ∷ []
spelling Line = 10 ∷ []
spelling End = []
spelling Wrong = []

-- tokens of letters and digits
pub data Word : Token → Type 0 where
  name : (p : ℕ) → p ≤ last_proposition → Word (Name p)
  truth : Word True
  falsity : Word False
  temporal : (q : Quantifier) (o : Operator) → Word (Temporal q o)
  path : (q : Quantifier) → Word (Path q)
  until : Word Until

-- tokens of one other byte
pub data Sign : Token → Type 0 where
  bang : Sign Not
  ampersand : Sign And
  bar : Sign Or
  left : Sign Open
  right : Sign Close
  left_square : Sign OpenSquare
  right_square : Sign CloseSquare
  newline : Sign Line
