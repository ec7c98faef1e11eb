-- A text names only labels: the scanner makes no other name, so a rule that the text reads as has no other, and neither has the formula that is made of it.
use mathlib.Core.Path.{◌≡◌, subst, subst⁻¹}
use mathlib.Core.Bool.{Bool, true, false, not, ◌&&◌, cond}
use mathlib.Core.Logic.{⊎_elim}
use mathlib.Core.List.Memᴰ.{cases_cons as in-cases}
use mathlib.Core.List.{List, [], ◌∷◌, ◌++◌, Memᴰ as In}
use Prim.Native.Nat.{ℕ, ◌≤◌}
use native.Mathlib.Omega.{arith}
use lib.Dec.{T, eqb, leb, leb→le}
use Rattle.model.specs.Actl.{Actl, verum, falsum, has, lacks, both, either, AX, AU, AG}
use Rattle.model.proofs.Bools.{and_both}
use Rattle.layout.specs.Sizes.{last_proposition}
use Rattle.tokens.specs.declared.Quantifier.{Quantifier}
use Rattle.tokens.specs.declared.Quantifier.TheVariants.{All, Some}
use Rattle.tokens.specs.declared.Operator.TheVariants.{Next, Always, Eventually}
use Rattle.tokens.specs.declared.Token.{Token}
use Rattle.tokens.specs.declared.Token.TheVariants.{Name, True, False, Not, Temporal, Path, Until, And, Or, Implies, Open, Close, OpenSquare, CloseSquare, Line, End, Wrong}
use Rattle.tokens.specs.Tokens.{within, digit, worded, run, letter_of, operator_of, name_of, pair_of, two_digits, triple_of, true_of, false_of, word_of, sign_of, Scanned, arrow, first, behind_spaces, scanned}
use Rattle.typed.specs.Grammar.{Typed, named, constant, negated, along, until, and, or, implies, Rank, Reads, by_name, by_true, by_false, by_not, by_temporal, by_until, by_brackets, as_conjunction, by_and, as_disjunction, by_or, as_implication, by_arrow, Spells, Lines}
use Rattle.typed.specs.Records.{at_steps, pushed}

-- ---- what is scanned
-- a name is a label
abbrev LabelToken : Token → Type 0
LabelToken (Name p) = p ≤ last_proposition
LabelToken True = Unit {0}
LabelToken False = Unit {0}
LabelToken Not = Unit {0}
LabelToken (Temporal q o) = Unit {0}
LabelToken (Path q) = Unit {0}
LabelToken Until = Unit {0}
LabelToken And = Unit {0}
LabelToken Or = Unit {0}
LabelToken Implies = Unit {0}
LabelToken Open = Unit {0}
LabelToken Close = Unit {0}
LabelToken OpenSquare = Unit {0}
LabelToken CloseSquare = Unit {0}
LabelToken Line = Unit {0}
LabelToken End = Unit {0}
LabelToken Wrong = Unit {0}

-- one of two by a test
chosen : {A : Type 0} (P : A → Type 0) (b : Bool) {x y : A} → (T b → P x) → P y → P (cond b x y)
chosen P true h k = h tt
chosen P false h k = k

-- a word of one letter
label_letter : (a : ℕ) → LabelToken (letter_of a)
unfolding letter_of
label_letter a = chosen LabelToken (eqb a 65) (λ t. tt) (chosen LabelToken (eqb a 69) (λ t. tt) (chosen LabelToken (eqb a 85) (λ t. tt) tt))

-- a prefix
label_operator : (q : Quantifier) (b : ℕ) → LabelToken (operator_of q b)
unfolding operator_of
label_operator q b = chosen LabelToken (eqb b 88) (λ t. tt) (chosen LabelToken (eqb b 71) (λ t. tt) (chosen LabelToken (eqb b 70) (λ t. tt) tt))

-- a name of one digit: at most p9
label_name : (b : ℕ) → LabelToken (name_of b)
unfolding name_of
label_name b = chosen LabelToken (digit b) (λ t. let h = leb→le b 57 (and_both (leb 48 b) (leb b 57) t).1 in omega arith) tt

-- a word of two
label_pair : (a b : ℕ) → LabelToken (pair_of a b)
unfolding pair_of
label_pair a b = chosen LabelToken (eqb a 112) (λ t. label_name b) (chosen LabelToken (eqb a 65) (λ t. label_operator All b) (chosen LabelToken (eqb a 69) (λ t. label_operator Some b) tt))

-- a name of two digits: the scanner compares it with the last
label_triple : (a b c : ℕ) → LabelToken (triple_of a b c)
unfolding triple_of
label_triple a b c =
    let low = leb (two_digits b c) last_proposition in
    chosen LabelToken (eqb a 112 && (within 49 57 b && (digit c && low)))
    (λ t.
    leb→le (two_digits b c) last_proposition
    (and_both (digit c) low (and_both (within 49 57 b) (digit c && low) (and_both (eqb a 112) (within 49 57 b && (digit c && low)) t).1).1).1)
    tt

-- any word
label_word : (w : List ℕ) → LabelToken (word_of w)
unfolding word_of true_of false_of
label_word [] = tt
label_word (a ∷ []) = label_letter a
label_word (a ∷ b ∷ []) = label_pair a b
label_word (a ∷ b ∷ c ∷ []) = label_triple a b c
label_word (a ∷ b ∷ c ∷ d ∷ []) = chosen LabelToken (eqb a 84 && (eqb b 82 && (eqb c 85 && eqb d 69))) (λ t. tt) tt
label_word (a ∷ b ∷ c ∷ d ∷ e ∷ []) = chosen LabelToken (eqb a 70 && (eqb b 65 && (eqb c 76 && (eqb d 83 && eqb e 69)))) (λ t. tt) tt
label_word (a ∷ b ∷ c ∷ d ∷ e ∷ f ∷ w) = tt

-- a sign
label_sign : (b : ℕ) → LabelToken (sign_of b)
unfolding sign_of
label_sign b =
    chosen LabelToken (eqb b 33) (λ t. tt)
    (chosen LabelToken (eqb b 38) (λ t. tt)
    (chosen LabelToken (eqb b 124) (λ t. tt)
    (chosen LabelToken (eqb b 40) (λ t. tt) (chosen LabelToken (eqb b 41) (λ t. tt) (chosen LabelToken (eqb b 91) (λ t. tt) (chosen LabelToken (eqb b 93) (λ t. tt) (chosen LabelToken (eqb b 10) (λ t. tt) tt)))))))

-- the first token of a text
abbrev LabelScan : Scanned → Type 0
LabelScan x = LabelToken x.token

-- an arrow
label_arrow : (s : List ℕ) → LabelScan (arrow s)
unfolding arrow
label_arrow [] = tt
label_arrow (b ∷ s) = chosen LabelScan (eqb b 62) (λ t. tt) tt

-- where no space stands first
label_first : (s : List ℕ) → LabelScan (first s)
unfolding first
label_first [] = tt
label_first (b ∷ s) =
    chosen LabelScan (worded b) (λ t. label_word (run (b ∷ s))) (chosen LabelScan (eqb b 45) (λ t. label_arrow s) (label_sign b))

-- any
label_scanned : (s : List ℕ) → LabelScan (scanned s)
unfolding scanned
label_scanned s = label_first (behind_spaces s)

-- ---- what is read
-- each of some tokens, if it is a name, is a label
abbrev LabelTokens : List Token → Type 0
LabelTokens [] = Unit {0}
LabelTokens (t ∷ ts) = LabelToken t × LabelTokens ts

-- those of one list and of another behind it
parts : (ts us : List Token) → LabelTokens (ts ++ us) → LabelTokens ts × LabelTokens us
parts [] us h = (tt, h)
parts (t ∷ ts) us h = let w = parts ts us h.1 in ((h.0, w.0), w.1)

-- of a text
label_spelled : {s s' : List ℕ} {ts : List Token} → Spells s ts s' → LabelTokens ts
label_spelled Spells.none = tt
label_spelled (Spells.one {s = s} e more) = (subst LabelToken e (label_scanned s), label_spelled more)

-- each name of a rule is a label
abbrev pub Labels : Typed → Type 0
Labels (named p) = p ≤ last_proposition
Labels (constant b) = Unit {0}
Labels (negated f) = Labels f
Labels (along q o f) = Labels f
Labels (until q f g) = Labels f × Labels g
Labels (and f g) = Labels f × Labels g
Labels (or f g) = Labels f × Labels g
Labels (implies f g) = Labels f × Labels g

-- what is read of such tokens has such names
label_read : {r : Rank} {d : ℕ} {ts : List Token} {f : Typed} → Reads r d ts f → LabelTokens ts → Labels f
label_read by_name h = h.0
label_read by_true h = tt
label_read by_false h = tt
label_read (by_not r) h = label_read r h.1
label_read (by_temporal r) h = label_read r h.1
label_read (by_until {ts = ts} {us = us} r q) h =
    let w = parts ts (Until ∷ (us ++ (CloseSquare ∷ []))) h.1.1 in
    (label_read r w.0, label_read q (parts us (CloseSquare ∷ []) w.1.1).0)
label_read (by_brackets {ts = ts} r) h = label_read r (parts ts (Close ∷ []) h.1).0
label_read (as_conjunction r) h = label_read r h
label_read (by_and {ts = ts} {us = us} r q) h = let w = parts ts (And ∷ us) h in (label_read r w.0, label_read q w.1.1)
label_read (as_disjunction r) h = label_read r h
label_read (by_or {ts = ts} {us = us} r q) h = let w = parts ts (Or ∷ us) h in (label_read r w.0, label_read q w.1.1)
label_read (as_implication r) h = label_read r h
label_read (by_arrow {ts = ts} {us = us} r q) h = let w = parts ts (Implies ∷ us) h in (label_read r w.0, label_read q w.1.1)

-- what a text reads as has labels for names
pub labels_read : {s s' : List ℕ} {r : Rank} {d : ℕ} {ts : List Token} {f : Typed} → Spells s ts s' → Reads r d ts f → Labels f
labels_read x y = label_read y (label_spelled x)

-- and so has each rule of several lines
pub labels_in : {s : List ℕ} {fs : List Typed} → Lines s fs → (f : Typed) → In f fs → Labels f
labels_in Lines.none g i = elim i [ ]
labels_in (Lines.line {f = f} x y e more) g i =
    ⊎_elim (λ (p : g ≡ f). subst⁻¹ Labels p (labels_read x y)) (labels_in more g) (in-cases i)

-- ---- what is made of it
-- each proposition of a formula is a label
abbrev pub Labelled : Actl → Type 0
Labelled verum = Unit {0}
Labelled falsum = Unit {0}
Labelled (has p) = p ≤ last_proposition
Labelled (lacks p) = p ≤ last_proposition
Labelled (both a b) = Labelled a × Labelled b
Labelled (either a b) = Labelled a × Labelled b
Labelled (AX a) = Labelled a
Labelled (AU a b) = Labelled a × Labelled b
Labelled (AG a) = Labelled a

-- so is each of what a rule is made into, or its negation
pub label_pushed : (b : Bool) (f : Typed) → Labels f → Labelled (pushed b f)
unfolding pushed at_steps
label_pushed true (named p) h = h
label_pushed false (named p) h = h
label_pushed true (constant true) h = tt
label_pushed true (constant false) h = tt
label_pushed false (constant true) h = tt
label_pushed false (constant false) h = tt
label_pushed b (negated f) h = label_pushed (not b) f h
label_pushed b (along q Next f) h = label_pushed b f h
label_pushed b (along q Always f) h = label_pushed b f h
label_pushed b (along q Eventually f) h = (tt, label_pushed b f h)
label_pushed b (until q f g) h = (label_pushed b f h.0, label_pushed b g h.1)
label_pushed true (and f g) h = (label_pushed true f h.0, label_pushed true g h.1)
label_pushed false (and f g) h = (label_pushed false f h.0, label_pushed false g h.1)
label_pushed true (or f g) h = (label_pushed true f h.0, label_pushed true g h.1)
label_pushed false (or f g) h = (label_pushed false f h.0, label_pushed false g h.1)
label_pushed true (implies f g) h = (label_pushed false f h.0, label_pushed true g h.1)
label_pushed false (implies f g) h = (label_pushed true f h.0, label_pushed false g h.1)
