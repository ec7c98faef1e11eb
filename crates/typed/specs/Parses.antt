-- Nobody has to believe this: the grammar once more, read from the first token to the last without going back, so that each step is decided by the next token. (`proofs/Unique` shows
-- that every reading of the grammar is one of these, and that there is at most one of them.)
use Rattle.std.specs.Prelude.{◌≡◌, true, false, List, ℕ, suc}
use Rattle.tokens.specs.declared.Quantifier.{Quantifier}
use Rattle.tokens.specs.declared.Operator.{Operator}
use Rattle.tokens.specs.declared.Token.{Token}
use Rattle.tokens.specs.declared.Token.TheVariants.{Name, True, False, Not, Temporal, Path, Until, And, Or, Implies, Open, Close, OpenSquare, CloseSquare}
use Rattle.tokens.specs.Tokens.{scanned}
use Rattle.typed.specs.Grammar.{Typed, named, constant, negated, along, until, and, or, implies, Rank, closest, conjunction, disjunction, implication}

-- what is to be read: a part of a rank; a closest part behind its first token; more of a conjunction or of a disjunction, behind what was read of it
pub data Goal : Type 0 where
  part : Rank → Goal
  behind : Token → Goal
  more_and more_or : Typed → Goal

-- the text doesn't go on with a token
abbrev pub Ends : Token → List ℕ → Type 0
Ends t s = (scanned s).token ≡ t → ⊥

-- `Parses g d s f s'`: from s on g reads as f, and s' is left.
pub data Parses : Goal → ℕ → List ℕ → Typed → List ℕ → Type 0 where
  a_closest : {d : ℕ} {s s' : List ℕ} {t : Token} {f : Typed} → (scanned s).token ≡ t → Parses (behind t) d (scanned s).rest f s' → Parses (part closest) d s f s'
  a_name : {d p : ℕ} {s : List ℕ} → Parses (behind (Name p)) d s (named p) s
  a_true : {d : ℕ} {s : List ℕ} → Parses (behind True) d s (constant true) s
  a_false : {d : ℕ} {s : List ℕ} → Parses (behind False) d s (constant false) s
  a_not : {d : ℕ} {s s' : List ℕ} {f : Typed} → Parses (part closest) d s f s' → Parses (behind Not) d s (negated f) s'
  a_temporal : {d : ℕ} {q : Quantifier} {o : Operator} {s s' : List ℕ} {f : Typed} → Parses (part closest) d s f s' → Parses (behind (Temporal q o)) d s (along q o f) s'
  a_until : {d : ℕ} {q : Quantifier} {s s₁ s₂ : List ℕ} {f g : Typed} → (scanned s).token ≡ OpenSquare → Parses (part implication) d (scanned s).rest f s₁
      → (scanned s₁).token ≡ Until → Parses (part implication) d (scanned s₁).rest g s₂ → (scanned s₂).token ≡ CloseSquare
      → Parses (behind (Path q)) (suc d) s (until q f g) (scanned s₂).rest
  a_bracket : {d : ℕ} {s s₁ : List ℕ} {f : Typed} → Parses (part implication) d s f s₁ → (scanned s₁).token ≡ Close
      → Parses (behind Open) (suc d) s f (scanned s₁).rest
  a_conjunction : {d : ℕ} {s s₁ s' : List ℕ} {f g : Typed} → Parses (part closest) d s f s₁ → Parses (more_and f) d s₁ g s' → Parses (part conjunction) d s g s'
  no_more_and : {d : ℕ} {s : List ℕ} {f : Typed} → Ends And s → Parses (more_and f) d s f s
  one_more_and : {d : ℕ} {s s₁ s' : List ℕ} {f g h : Typed} → (scanned s).token ≡ And → Parses (part closest) d (scanned s).rest g s₁
      → Parses (more_and (and f g)) d s₁ h s' → Parses (more_and f) d s h s'
  a_disjunction : {d : ℕ} {s s₁ s' : List ℕ} {f g : Typed} → Parses (part conjunction) d s f s₁ → Parses (more_or f) d s₁ g s' → Parses (part disjunction) d s g s'
  no_more_or : {d : ℕ} {s : List ℕ} {f : Typed} → Ends Or s → Parses (more_or f) d s f s
  one_more_or : {d : ℕ} {s s₁ s' : List ℕ} {f g h : Typed} → (scanned s).token ≡ Or → Parses (part conjunction) d (scanned s).rest g s₁
      → Parses (more_or (or f g)) d s₁ h s' → Parses (more_or f) d s h s'
  no_arrow : {d : ℕ} {s s' : List ℕ} {f : Typed} → Parses (part disjunction) d s f s' → Ends Implies s' → Parses (part implication) d s f s'
  an_arrow : {d : ℕ} {s s₁ s' : List ℕ} {f g : Typed} → Parses (part disjunction) d s f s₁ → (scanned s₁).token ≡ Implies
      → Parses (part implication) d (scanned s₁).rest g s' → Parses (part implication) d s (implies f g) s'

-- what may stand behind a part: nothing that it would have taken
abbrev pub Ended : Rank → List ℕ → Type 0
Ended closest s = Unit {0}
Ended conjunction s = Ends And s
Ended disjunction s = Ends And s × Ends Or s
Ended implication s = Ends And s × Ends Or s × Ends Implies s
