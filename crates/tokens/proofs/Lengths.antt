-- Words by their length: what each letter has to be.
use mathlib.Core.Path.{◌≡◌, refl}
use mathlib.Core.Bool.{cond, ◌&&◌}
use mathlib.Core.List.{List, [], ◌∷◌}
use Prim.Native.Nat.{ℕ, ◌-◌, ◌≤◌, ◌<◌}
use native.Mathlib.Omega.{arith}
use borrow.Author.Tests.{ne_eqb}
use lib.Dec.{eqb, leb}
use lib.ListN.{length}
use Rattle.std.proofs.lemmas.Grind.{common_steps}
use Rattle.layout.specs.Bytes.{byte}
use Rattle.layout.specs.Sizes.{last_proposition}
use Rattle.tokens.specs.declared.Quantifier.TheVariants.{All, Some}
use Rattle.tokens.specs.declared.Token.TheVariants.{Name, True, False, Path, Until, Wrong}
use Rattle.tokens.specs.Tokens.{within, digit, letter_of, operator_of, name_of, pair_of, two_digits, triple_of, true_of, false_of, word_of}

-- A, E and U
pub one_letter : (w : List ℕ) → length w ≡ 1 → word_of w ≡ cond (eqb (byte w 0) 65) (Path All) (cond (eqb (byte w 0) 69) (Path Some) (cond (eqb (byte w 0) 85) Until Wrong))
unfolding word_of letter_of
one_letter [] h = cc
one_letter (a ∷ []) h = refl
one_letter (a ∷ b ∷ w) h = cc

-- p, A or E, and what stands behind it
pub two_letters : (w : List ℕ) → length w ≡ 2 → word_of w ≡ cond (eqb (byte w 0) 112) (name_of (byte w 1)) (cond (eqb (byte w 0) 65) (operator_of All (byte w 1)) (cond (eqb (byte w 0) 69) (operator_of Some (byte w 1)) Wrong))
unfolding word_of pair_of
two_letters [] h = cc
two_letters (a ∷ []) h = cc
two_letters (a ∷ b ∷ []) h = refl
two_letters (a ∷ b ∷ c ∷ w) h = cc

-- p alone begins one of three
pub three_letters : (w : List ℕ) → length w ≡ 3 → (byte w 0 ≡ 112 → ⊥) → word_of w ≡ Wrong
unfolding word_of triple_of
three_letters [] h n = cc
three_letters (a ∷ []) h n = cc
three_letters (a ∷ b ∷ []) h n = cc
three_letters (a ∷ b ∷ c ∷ []) h n = rw (ne_eqb a 112 n)
three_letters (a ∷ b ∷ c ∷ d ∷ w) h n = cc

-- TRUE
pub four_letters : (w : List ℕ) → length w ≡ 4 → word_of w ≡ cond (eqb (byte w 0) 84 && (eqb (byte w 1) 82 && (eqb (byte w 2) 85 && eqb (byte w 3) 69))) True Wrong
unfolding word_of true_of
four_letters [] h = cc
four_letters (a ∷ []) h = cc
four_letters (a ∷ b ∷ []) h = cc
four_letters (a ∷ b ∷ c ∷ []) h = cc
four_letters (a ∷ b ∷ c ∷ d ∷ []) h = refl
four_letters (a ∷ b ∷ c ∷ d ∷ e ∷ w) h = cc

-- FALSE
pub five_letters : (w : List ℕ) → length w ≡ 5 → word_of w ≡ cond (eqb (byte w 0) 70 && (eqb (byte w 1) 65 && (eqb (byte w 2) 76 && (eqb (byte w 3) 83 && eqb (byte w 4) 69)))) False Wrong
unfolding word_of false_of
five_letters [] h = cc
five_letters (a ∷ []) h = cc
five_letters (a ∷ b ∷ []) h = cc
five_letters (a ∷ b ∷ c ∷ []) h = cc
five_letters (a ∷ b ∷ c ∷ d ∷ []) h = cc
five_letters (a ∷ b ∷ c ∷ d ∷ e ∷ []) h = refl
five_letters (a ∷ b ∷ c ∷ d ∷ e ∷ f ∷ w) h = cc

-- none is longer, and none is empty
pub more_letters : (w : List ℕ) → 6 ≤ length w → word_of w ≡ Wrong
unfolding word_of
more_letters [] h = absurd (omega arith)
more_letters (a ∷ []) h = absurd (omega arith)
more_letters (a ∷ b ∷ []) h = absurd (omega arith)
more_letters (a ∷ b ∷ c ∷ []) h = absurd (omega arith)
more_letters (a ∷ b ∷ c ∷ d ∷ []) h = absurd (omega arith)
more_letters (a ∷ b ∷ c ∷ d ∷ e ∷ []) h = absurd (omega arith)
more_letters (a ∷ b ∷ c ∷ d ∷ e ∷ f ∷ w) h = refl

pub no_letter : (w : List ℕ) → length w < 1 → word_of w ≡ Wrong
unfolding word_of
no_letter [] h = refl
no_letter (a ∷ w) h = absurd (omega arith)

-- ---- behind p
pub one_digit : (w : List ℕ) → length w ≡ 1 → word_of (112 ∷ w) ≡ cond (digit (byte w 0)) (Name (byte w 0 - 48)) Wrong
unfolding word_of pair_of name_of
one_digit [] h = cc
one_digit (a ∷ []) h = refl
one_digit (a ∷ b ∷ w) h = cc

pub both_digits : (w : List ℕ) → length w ≡ 2 → word_of (112 ∷ w) ≡ cond (within 49 57 (byte w 0) && (digit (byte w 1) && leb (two_digits (byte w 0) (byte w 1)) last_proposition)) (Name (two_digits (byte w 0) (byte w 1))) Wrong
unfolding word_of triple_of
both_digits [] h = cc
both_digits (a ∷ []) h = cc
both_digits (a ∷ b ∷ []) h = refl
both_digits (a ∷ b ∷ c ∷ w) h = cc

pub no_digit : (w : List ℕ) → length w < 1 → word_of (112 ∷ w) ≡ Wrong
unfolding word_of letter_of
no_digit [] h = refl
no_digit (a ∷ w) h = absurd (omega arith)

pub more_digits : (w : List ℕ) → 3 ≤ length w → word_of (112 ∷ w) ≡ Wrong
unfolding word_of true_of false_of
more_digits [] h = absurd (omega arith)
more_digits (a ∷ []) h = absurd (omega arith)
more_digits (a ∷ b ∷ []) h = absurd (omega arith)
more_digits (a ∷ b ∷ c ∷ []) h = refl
more_digits (a ∷ b ∷ c ∷ d ∷ []) h = refl
more_digits (a ∷ b ∷ c ∷ d ∷ e ∷ w) h = refl

pub ruleset letters = (common_steps, one_letter, two_letters, three_letters, four_letters, five_letters, more_letters, no_letter)

pub ruleset digits = (one_digit, both_digits, no_digit, more_digits)
