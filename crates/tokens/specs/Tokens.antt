-- Specification, "Rules as people type them": the words and signs of a text. Spaces may stand around each of them; letters and digits that touch are one word. Whatever is no word
-- and no sign is `Wrong`, of which no rule is made. Bytes are ASCII.
use Rattle.std.specs.Prelude.{Bool, ◌&&◌, ◌||◌, cond, List, [], ◌∷◌, ℕ, ◌+◌, ◌-◌, ◌*◌, eqb, leb}
use Rattle.layout.specs.Sizes.{last_proposition}
use Rattle.tokens.specs.declared.Quantifier.{Quantifier}
use Rattle.tokens.specs.declared.Quantifier.TheVariants as quantifier
use Rattle.tokens.specs.declared.Operator.TheVariants.{Next, Always, Eventually}
use Rattle.tokens.specs.declared.Token.{Token}
use Rattle.tokens.specs.declared.Token.TheVariants.{Name, True, False, Not, Temporal, Path, Until, And, Or, Implies, Open, Close, OpenSquare, CloseSquare, Line, End, Wrong}

-- ---- letters and digits
abbrev pub within : ℕ → ℕ → ℕ → Bool
within least most b = leb least b && leb b most

-- 0 to 9
abbrev pub digit : ℕ → Bool
digit b = within 48 57 b

-- or A to Z, or a to z
unfoldable pub worded : ℕ → Bool
worded b = digit b || (within 65 90 b || within 97 122 b)

-- the letters and digits at the front, and what stands behind them
unfoldable pub run : List ℕ → List ℕ
run [] = []
run (b ∷ s) = cond (worded b) (b ∷ run s) []

unfoldable pub behind_run : List ℕ → List ℕ
behind_run [] = []
behind_run (b ∷ s) = cond (worded b) (behind_run s) (b ∷ s)

-- ---- words
-- A, E and U
unfoldable pub letter_of : ℕ → Token
letter_of a = cond (eqb a 65) (Path quantifier.All) (cond (eqb a 69) (Path quantifier.Some) (cond (eqb a 85) Until Wrong))

-- X, G and F behind A or E
unfoldable pub operator_of : Quantifier → ℕ → Token
operator_of q b = cond (eqb b 88) (Temporal q Next) (cond (eqb b 71) (Temporal q Always) (cond (eqb b 70) (Temporal q Eventually) Wrong))

-- p0 to p9: the digit behind p
unfoldable pub name_of : ℕ → Token
name_of b = cond (digit b) (Name (b - 48)) Wrong

unfoldable pub pair_of : ℕ → ℕ → Token
pair_of a b = cond (eqb a 112) (name_of b) (cond (eqb a 65) (operator_of quantifier.All b) (cond (eqb a 69) (operator_of quantifier.Some b) Wrong))

-- p10 to the last: two digits behind p, of which the first isn't 0
abbrev pub two_digits : ℕ → ℕ → ℕ
two_digits b c = 10 * (b - 48) + (c - 48)

unfoldable pub triple_of : ℕ → ℕ → ℕ → Token
triple_of a b c = cond (eqb a 112 && (within 49 57 b && (digit c && leb (two_digits b c) last_proposition))) (Name (two_digits b c)) Wrong

-- TRUE
unfoldable pub true_of : ℕ → ℕ → ℕ → ℕ → Token
true_of a b c d = cond (eqb a 84 && (eqb b 82 && (eqb c 85 && eqb d 69))) True Wrong

-- FALSE
unfoldable pub false_of : ℕ → ℕ → ℕ → ℕ → ℕ → Token
false_of a b c d e = cond (eqb a 70 && (eqb b 65 && (eqb c 76 && (eqb d 83 && eqb e 69)))) False Wrong

-- a word, by its letters and digits
unfoldable pub word_of : List ℕ → Token
word_of [] = Wrong
word_of (a ∷ []) = letter_of a
word_of (a ∷ b ∷ []) = pair_of a b
word_of (a ∷ b ∷ c ∷ []) = triple_of a b c
word_of (a ∷ b ∷ c ∷ d ∷ []) = true_of a b c d
word_of (a ∷ b ∷ c ∷ d ∷ e ∷ []) = false_of a b c d e
word_of (a ∷ b ∷ c ∷ d ∷ e ∷ f ∷ w) = Wrong

-- ---- signs
-- ! & | ( ) [ ] and the newline
unfoldable pub sign_of : ℕ → Token
sign_of b =
    cond (eqb b 33) Not
    (cond (eqb b 38) And
    (cond (eqb b 124) Or
    (cond (eqb b 40) Open (cond (eqb b 41) Close (cond (eqb b 91) OpenSquare (cond (eqb b 93) CloseSquare (cond (eqb b 10) Line Wrong)))))))

-- ---- the first token of a text, and what stands behind it
pub record Scanned : Type 0 where
  pub token : Token
  pub rest : List ℕ

-- -> behind its hyphen
unfoldable pub arrow : List ℕ → Scanned
arrow [] = record { token = Wrong; rest = [] }
arrow (b ∷ s) = cond (eqb b 62) (record { token = Implies; rest = s }) (record { token = Wrong; rest = b ∷ s })

-- where no space stands first
unfoldable pub first : List ℕ → Scanned
first [] = record { token = End; rest = [] }
first (b ∷ s) =
    cond (worded b) (record { token = word_of (run (b ∷ s)); rest = behind_run (b ∷ s) }) (cond (eqb b 45) (arrow s) (record { token = sign_of b; rest = s }))

unfoldable pub behind_spaces : List ℕ → List ℕ
behind_spaces [] = []
behind_spaces (b ∷ s) = cond (eqb b 32) (behind_spaces s) (b ∷ s)

unfoldable pub scanned : List ℕ → Scanned
scanned s = first (behind_spaces s)
