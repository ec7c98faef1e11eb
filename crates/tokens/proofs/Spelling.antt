-- The words and signs are read as they are written, and nothing else is read as one of them.
use mathlib.Core.Path.{◌≡◌, refl, sym, ap, ap₂, ◌∙◌}
use mathlib.Core.Bool.{Bool, true, false, cond, ◌&&◌}
use mathlib.Core.List.{List, [], ◌∷◌}
use Prim.Native.Nat.{ℕ, ◌+◌, ◌-◌, ◌/◌, ◌%◌, ◌≤◌, ◌<◌}
use native.Mathlib.Decide.{dec_lt}
use native.Mathlib.Omega.{arith}
use borrow.Author.Tests.{eqb-true, lt-ltb, le-ltb}
use lib.Dec.{eqb, leb}
use Rattle.layout.specs.Bytes.{byte}
use Rattle.layout.specs.Sizes.{last_proposition}
use Rattle.layout.proofs.Tables.{and_left, and_right}
use Rattle.tokens.specs.declared.Quantifier.{Quantifier}
use Rattle.tokens.specs.declared.Quantifier.TheVariants.{All, Some}
use Rattle.tokens.specs.declared.Operator.TheVariants.{Next, Always, Eventually}
use Rattle.tokens.specs.declared.Token.{Token}
use Rattle.tokens.specs.declared.Token.TheVariants.{Name, Wrong}
use Rattle.tokens.specs.Tokens.{digit, within, two_digits, letter_of, operator_of, name_of, pair_of, triple_of, true_of, false_of, word_of, sign_of}
use Rattle.tokens.specs.Spelling.{quantifier_letter, operator_letter, number, spelling, Word, name, truth, falsity, temporal, path, until, Sign, bang, ampersand, bar, left, right, left_square, right_square, newline}
use Rattle.tokens.proofs.Within.{bounds}
use Rattle.tokens.proofs.Names.{one_digit, both_digits}

-- ---- as they are written
-- a number of one digit
short : (p : ℕ) → p < 10 → number p ≡ (p + 48) ∷ []
unfolding number
short p h = rw (lt-ltb p 10 h)

-- and of two
long : (p : ℕ) → 10 ≤ p → number p ≡ (p / 10 + 48) ∷ (p % 10 + 48) ∷ []
unfolding number
long p h = rw (le-ltb p 10 h)

-- the name of one
short_name : (p : ℕ) → p < 10 → word_of (112 ∷ (p + 48) ∷ []) ≡ Name p
unfolding word_of pair_of
short_name p h = let e : p + 48 - 48 ≡ p = omega arith in sym (one_digit (p + 48) (omega arith) (omega arith)) ∙ ap Name e

-- and of the other
long_name : (p : ℕ) → 10 ≤ p → p ≤ last_proposition → word_of (112 ∷ (p / 10 + 48) ∷ (p % 10 + 48) ∷ []) ≡ Name p
unfolding word_of
long_name p l h =
    let e : two_digits (p / 10 + 48) (p % 10 + 48) ≡ p = omega arith in
    sym (both_digits 112 (p / 10 + 48) (p % 10 + 48) refl (omega arith) (omega arith) (omega arith) (omega arith) (omega arith)) ∙ ap Name e

-- the name of each proposition
name_read : (p : ℕ) → p ≤ last_proposition → word_of (112 ∷ number p) ≡ Name p
name_read p h = elim (dec_lt p 10) [
  | yes l ↦ ap (λ d. word_of (112 ∷ d)) (short p l) ∙ short_name p l
  | no n ↦ let l : 10 ≤ p = omega arith in ap (λ d. word_of (112 ∷ d)) (long p l) ∙ long_name p l h
]

-- each word
pub word_read : {t : Token} → Word t → word_of (spelling t) ≡ t
unfolding spelling quantifier_letter operator_letter word_of letter_of pair_of operator_of true_of false_of
word_read (name p h) = name_read p h
word_read truth = refl
word_read falsity = refl
word_read (temporal All Next) = refl
word_read (temporal All Always) = refl
word_read (temporal All Eventually) = refl
word_read (temporal Some Next) = refl
word_read (temporal Some Always) = refl
word_read (temporal Some Eventually) = refl
word_read (path All) = refl
word_read (path Some) = refl
word_read until = refl

-- each sign, which is one byte
pub sign_read : {t : Token} → Sign t → (spelling t ≡ byte (spelling t) 0 ∷ []) × (sign_of (byte (spelling t) 0) ≡ t)
unfolding spelling sign_of
sign_read bang = (refl, refl)
sign_read ampersand = (refl, refl)
sign_read bar = (refl, refl)
sign_read left = (refl, refl)
sign_read right = (refl, refl)
sign_read left_square = (refl, refl)
sign_read right_square = (refl, refl)
sign_read newline = (refl, refl)

-- ---- nothing else
-- what is read as a token is how it is written, unless it is wrong
abbrev Written : List ℕ → Token → Type 0
Written w t = (t ≡ Wrong → ⊥) → w ≡ spelling t

-- nothing is said of what is wrong
wrong : (w : List ℕ) → Written w Wrong
wrong w n = absurd (n refl)

-- by a test
tested : {w : List ℕ} (b : Bool) (x y : Token) → (b ≡ true → Written w x) → Written w y → Written w (cond b x y)
tested true x y f g = f refl
tested false x y f g = g

-- a byte that passes its test
alone : (a k : ℕ) → eqb a k ≡ true → a ∷ [] ≡ k ∷ []
alone a k e = ap (λ x. x ∷ []) (eqb-true a k e)

-- before others that pass theirs
before : (a k : ℕ) (b : Bool) (v w : List ℕ) → (b ≡ true → v ≡ w) → (eqb a k && b) ≡ true → a ∷ v ≡ k ∷ w
before a k b v w f e = ap₂ (λ x l. x ∷ l) (eqb-true a k (and_left (eqb a k) b e)) (f (and_right (eqb a k) b e))

-- A, E, U
letter_written : (a : ℕ) → Written (a ∷ []) (letter_of a)
unfolding letter_of spelling quantifier_letter
letter_written a =
    tested (eqb a 65) _ _ (λ e n. alone a 65 e)
    (tested (eqb a 69) _ _ (λ e n. alone a 69 e) (tested (eqb a 85) _ _ (λ e n. alone a 85 e) (wrong (a ∷ []))))

-- A or E, and a letter behind it
operator_written : (q : Quantifier) (a b : ℕ) → a ≡ quantifier_letter q → Written (a ∷ b ∷ []) (operator_of q b)
unfolding operator_of spelling operator_letter
operator_written q a b e =
    tested (eqb b 88) _ _ (λ f n. ap₂ (λ x l. x ∷ l) e (alone b 88 f))
    (tested (eqb b 71) _ _ (λ f n. ap₂ (λ x l. x ∷ l) e (alone b 71 f))
    (tested (eqb b 70) _ _ (λ f n. ap₂ (λ x l. x ∷ l) e (alone b 70 f)) (wrong (a ∷ b ∷ []))))

-- p and a digit
name_written : (a b : ℕ) → a ≡ 112 → Written (a ∷ b ∷ []) (name_of b)
unfolding name_of spelling
name_written a b e =
    tested (digit b) _ _ (λ d n.
    let h = bounds 48 57 b d in
    let f : b - 48 + 48 ≡ b = omega arith in
    ap₂ (λ x l. x ∷ l) e (sym (short (b - 48) (omega arith) ∙ ap (λ x. x ∷ []) f))) (wrong (a ∷ b ∷ []))

-- p, A or E, and what stands behind it
pair_written : (a b : ℕ) → Written (a ∷ b ∷ []) (pair_of a b)
unfolding pair_of quantifier_letter
pair_written a b =
    tested (eqb a 112) _ _ (λ e. name_written a b (eqb-true a 112 e))
    (tested (eqb a 65) _ _ (λ e. operator_written All a b (eqb-true a 65 e))
    (tested (eqb a 69) _ _ (λ e. operator_written Some a b (eqb-true a 69 e)) (wrong (a ∷ b ∷ []))))

-- two digits
digits_written : (b c : ℕ) → 49 ≤ b → b ≤ 57 → 48 ≤ c → c ≤ 57 → b ∷ c ∷ [] ≡ number (two_digits b c)
digits_written b c lb hb lc hc =
    let e : two_digits b c / 10 + 48 ≡ b = omega arith in
    let f : two_digits b c % 10 + 48 ≡ c = omega arith in
    sym (long (two_digits b c) (omega arith) ∙ ap₂ (λ x y. x ∷ y ∷ []) e f)

-- and p before them
triple_written : (a b c : ℕ) → Written (a ∷ b ∷ c ∷ []) (triple_of a b c)
unfolding triple_of spelling
triple_written a b c =
    let small = leb (two_digits b c) last_proposition in
    tested (eqb a 112 && (within 49 57 b && (digit c && small))) _ _ (λ e n.
    before a 112 _ _ _ (λ d.
    let h = bounds 49 57 b (and_left (within 49 57 b) (digit c && small) d) in
    let k = bounds 48 57 c (and_left (digit c) small (and_right (within 49 57 b) (digit c && small) d)) in
    digits_written b c h.0 h.1 k.0 k.1) e) (wrong (a ∷ b ∷ c ∷ []))

-- TRUE
true_written : (a b c d : ℕ) → Written (a ∷ b ∷ c ∷ d ∷ []) (true_of a b c d)
unfolding true_of spelling
true_written a b c d =
    tested _ _ _ (λ e n. before a 84 _ _ _ (before b 82 _ _ _ (before c 85 _ _ _ (alone d 69))) e) (wrong (a ∷ b ∷ c ∷ d ∷ []))

-- FALSE
false_written : (a b c d e : ℕ) → Written (a ∷ b ∷ c ∷ d ∷ e ∷ []) (false_of a b c d e)
unfolding false_of spelling
false_written a b c d e =
    tested _ _ _ (λ f n. before a 70 _ _ _ (before b 65 _ _ _ (before c 76 _ _ _ (before d 83 _ _ _ (alone e 69)))) f) (wrong (a ∷ b ∷ c ∷ d ∷ e ∷ []))

-- whatever is read as a word is how it is written
pub word_written : (w : List ℕ) → (word_of w ≡ Wrong → ⊥) → w ≡ spelling (word_of w)
unfolding word_of
word_written [] = wrong []
word_written (a ∷ []) = letter_written a
word_written (a ∷ b ∷ []) = pair_written a b
word_written (a ∷ b ∷ c ∷ []) = triple_written a b c
word_written (a ∷ b ∷ c ∷ d ∷ []) = true_written a b c d
word_written (a ∷ b ∷ c ∷ d ∷ e ∷ []) = false_written a b c d e
word_written (a ∷ b ∷ c ∷ d ∷ e ∷ f ∷ w) = wrong (a ∷ b ∷ c ∷ d ∷ e ∷ f ∷ w)

-- and as a sign
pub sign_written : (b : ℕ) → (sign_of b ≡ Wrong → ⊥) → b ∷ [] ≡ spelling (sign_of b)
unfolding sign_of spelling
sign_written b =
    tested (eqb b 33) _ _ (λ e n. alone b 33 e)
    (tested (eqb b 38) _ _ (λ e n. alone b 38 e)
    (tested (eqb b 124) _ _ (λ e n. alone b 124 e)
    (tested (eqb b 40) _ _ (λ e n. alone b 40 e)
    (tested (eqb b 41) _ _ (λ e n. alone b 41 e)
    (tested (eqb b 91) _ _ (λ e n. alone b 91 e)
    (tested (eqb b 93) _ _ (λ e n. alone b 93 e) (tested (eqb b 10) _ _ (λ e n. alone b 10 e) (wrong (b ∷ [])))))))))
