-- Specification, "Rules as people type them": the grammar, over tokens and then over trees. Names, TRUE, FALSE, !, AX, AG, AF and A [ f U g ] bind closest, then &, then |, both
-- grouping to the left, and ->, which groups to the right. EX, EF, EG and E [ f U g ] are of the grammar too: 20 refuses them.
use Rattle.std.specs.Prelude.{◌≡◌, Bool, true, false, List, [], ◌∷◌, ◌++◌, ℕ, suc}
use Rattle.tokens.specs.declared.Quantifier.{Quantifier}
use Rattle.tokens.specs.declared.Operator.{Operator}
use Rattle.tokens.specs.declared.Token.{Token}
use Rattle.tokens.specs.declared.Token.TheVariants.{Name, True, False, Not, Temporal, Path, Until, And, Or, Implies, Open, Close, OpenSquare, CloseSquare, Line}
use Rattle.tokens.specs.Tokens.{scanned}

-- a rule as it is typed, without its brackets
pub data Typed : Type 0 where
  named : ℕ → Typed
  constant : Bool → Typed
  negated : Typed → Typed
  -- AX, AG, AF, EX, EG, EF
  along : Quantifier → Operator → Typed → Typed
  -- A [ f U g ], E [ f U g ]
  until : Quantifier → Typed → Typed → Typed
  and or implies : Typed → Typed → Typed

-- how close a part binds
pub data Rank : Type 0 where
  closest conjunction disjunction implication : Rank

-- `Reads r d ts f`: as a part of rank r the tokens ts read as f, with at most d brackets, round or square, open together.
pub data Reads : Rank → ℕ → List Token → Typed → Type 0 where
  by_name : {d p : ℕ} → Reads closest d (Name p ∷ []) (named p)
  by_true : {d : ℕ} → Reads closest d (True ∷ []) (constant true)
  by_false : {d : ℕ} → Reads closest d (False ∷ []) (constant false)
  -- a prefix takes the closest part behind it
  by_not : {d : ℕ} {ts : List Token} {f : Typed} → Reads closest d ts f → Reads closest d (Not ∷ ts) (negated f)
  by_temporal : {d : ℕ} {q : Quantifier} {o : Operator} {ts : List Token} {f : Typed} → Reads closest d ts f → Reads closest d (Temporal q o ∷ ts) (along q o f)
  by_until : {d : ℕ} {q : Quantifier} {ts us : List Token} {f g : Typed} → Reads implication d ts f → Reads implication d us g
      → Reads closest (suc d) (Path q ∷ OpenSquare ∷ (ts ++ (Until ∷ (us ++ (CloseSquare ∷ []))))) (until q f g)
  by_brackets : {d : ℕ} {ts : List Token} {f : Typed} → Reads implication d ts f → Reads closest (suc d) (Open ∷ (ts ++ (Close ∷ []))) f
  as_conjunction : {d : ℕ} {ts : List Token} {f : Typed} → Reads closest d ts f → Reads conjunction d ts f
  by_and : {d : ℕ} {ts us : List Token} {f g : Typed} → Reads conjunction d ts f → Reads closest d us g → Reads conjunction d (ts ++ (And ∷ us)) (and f g)
  as_disjunction : {d : ℕ} {ts : List Token} {f : Typed} → Reads conjunction d ts f → Reads disjunction d ts f
  by_or : {d : ℕ} {ts us : List Token} {f g : Typed} → Reads disjunction d ts f → Reads conjunction d us g → Reads disjunction d (ts ++ (Or ∷ us)) (or f g)
  as_implication : {d : ℕ} {ts : List Token} {f : Typed} → Reads disjunction d ts f → Reads implication d ts f
  by_arrow : {d : ℕ} {ts us : List Token} {f g : Typed} → Reads disjunction d ts f → Reads implication d us g → Reads implication d (ts ++ (Implies ∷ us)) (implies f g)

-- `Spells s ts s'`: the front of s spells the tokens ts, and s' is left.
pub data Spells : List ℕ → List Token → List ℕ → Type 0 where
  none : {s : List ℕ} → Spells s [] s
  one : {s s' : List ℕ} {t : Token} {ts : List Token} → (scanned s).token ≡ t → Spells (scanned s).rest ts s' → Spells s (t ∷ ts) s'

-- brackets open together
abbrev pub most_depth : ℕ
most_depth = 32

-- `Lines s fs`: the text s reads as the rules fs, one a line. Each line is ended by a newline; empty text is no rules.
pub data Lines : List ℕ → List Typed → Type 0 where
  none : Lines [] []
  line : {s s' : List ℕ} {ts : List Token} {f : Typed} {fs : List Typed}
      → Spells s ts s' → Reads implication most_depth ts f → (scanned s').token ≡ Line → Lines (scanned s').rest fs → Lines s (f ∷ fs)
