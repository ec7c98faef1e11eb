-- The reading is unique. A reading of the grammar is one from the first token to the last (`complete`), and of these there is at most one (`same`): each step is decided by the next token.
use mathlib.Core.Path.{◌≡◌, refl, sym, ap, ap₂, subst, ◌∙◌}
use mathlib.Core.Bool.{Bool, true, false, false≢true}
use mathlib.Core.List.{List, [], ◌∷◌, ◌++◌}
use Prim.Native.Nat.{ℕ}
use native.Mathlib.Omega.{arith}
use Rattle.tokens.specs.declared.Token.{Token}
use Rattle.tokens.specs.declared.Token.TheVariants.{Name, True, False, Not, Temporal, Path, Until, And, Or, Implies, Open, Close, OpenSquare, CloseSquare, Line, End, Wrong}
use Rattle.tokens.specs.Tokens.{scanned, behind_spaces, first}
use Rattle.typed.specs.Grammar.{Typed, negated, along, until, and, or, implies, Rank, closest, conjunction, disjunction, implication, Reads, by_name, by_true, by_false, by_not, by_temporal, by_until, by_brackets, as_conjunction, by_and, as_disjunction, by_or, as_implication, by_arrow, Spells, Lines, most_depth}
use Rattle.typed.specs.Parses.{Goal, part, behind, more_and, more_or, Ends, Ended, Parses, a_closest, a_name, a_true, a_false, a_not, a_temporal, a_until, a_bracket, a_conjunction, no_more_and, one_more_and, a_disjunction, no_more_or, one_more_or, no_arrow, an_arrow}

-- ---- tokens
-- the tokens between two parts, by number
abbrev pub joint : Token → ℕ
joint (Name p) = 0
joint True = 0
joint False = 0
joint Not = 0
joint (Temporal q o) = 0
joint (Path q) = 0
joint Until = 0
joint And = 1
joint Or = 2
joint Implies = 3
joint Open = 0
joint Close = 0
joint OpenSquare = 0
joint CloseSquare = 0
joint Line = 0
joint End = 0
joint Wrong = 0

-- one token follows, so another doesn't
pub ends : (s : List ℕ) {t u : Token} → (scanned s).token ≡ t → (joint t ≡ joint u → ⊥) → Ends u s
ends s e n z = n (ap joint (sym e ∙ z))

-- a token that joins nothing ends every part
pub ended : (s : List ℕ) {t : Token} → (scanned s).token ≡ t → joint t ≡ 0 → Ended implication s
ended s e n = (ends s e (λ z. omega arith), ends s e (λ z. omega arith), ends s e (λ z. omega arith))

-- ---- spelling
pub split : (ts : List Token) {us : List Token} {s s' : List ℕ} → Spells s (ts ++ us) s' → (s₁ : List ℕ) × Spells s ts s₁ × Spells s₁ us s'
split [] {s = s} sp = (s, Spells.none, sp)
split (t ∷ ts) (Spells.one e sp) = let w = split ts sp in (w.0, Spells.one e w.1, w.2)

pub joined : {ts us : List Token} {s s₁ s' : List ℕ} → Spells s ts s₁ → Spells s₁ us s' → Spells s (ts ++ us) s'
joined Spells.none sq = sq
joined (Spells.one e sp) sq = Spells.one e (joined sp sq)

-- the first token, and the rest
head : {t : Token} {ts : List Token} {s s' : List ℕ} → Spells s (t ∷ ts) s' → (scanned s).token ≡ t
head (Spells.one e sp) = e

rest : {t : Token} {ts : List Token} {s s' : List ℕ} → Spells s (t ∷ ts) s' → Spells (scanned s).rest ts s'
rest (Spells.one e sp) = sp

nothing : {s s' : List ℕ} → Spells s [] s' → s ≡ s'
nothing Spells.none = refl

-- ---- every reading goes from the first token to the last
abbrev Completed : Rank → ℕ → List ℕ → Typed → List ℕ → Type 0
Completed closest d s f s₁ = Parses (part closest) d s f s₁
Completed conjunction d s f s₁ = (g : Typed) (s' : List ℕ) → Parses (more_and f) d s₁ g s' → Parses (part conjunction) d s g s'
Completed disjunction d s f s₁ = Ends And s₁ → (g : Typed) (s' : List ℕ) → Parses (more_or f) d s₁ g s' → Parses (part disjunction) d s g s'
Completed implication d s f s₁ = Ended implication s₁ → Parses (part implication) d s f s₁

-- what is left may be said by an equation
to : {g : Goal} {d : ℕ} {s s₁ s' : List ℕ} {f : Typed} → s₁ ≡ s' → Parses g d s f s₁ → Parses g d s f s'
to {g} {d} {s} {f = f} e x = subst (λ (r : List ℕ). Parses g d s f r) e x

complete_until : {d : ℕ} {ts us : List Token} {f g : Typed} {s s' : List ℕ}
    → Spells s (OpenSquare ∷ (ts ++ (Until ∷ (us ++ (CloseSquare ∷ []))))) s'
    → ((s₁ : List ℕ) → Spells (scanned s).rest ts s₁ → Completed implication d (scanned s).rest f s₁)
    → ((s₁ s₂ : List ℕ) → Spells s₁ us s₂ → Completed implication d s₁ g s₂)
    → (q : _) → Parses (behind (Path q)) (Prim.Native.Nat.suc d) s (until q f g) s'
complete_until {ts = ts} {us} sp x y q =
    let left = split ts (rest sp) in
    let right = split us (rest left.2) in
    to (nothing (rest right.2))
    (a_until (head sp) (x left.0 left.1 (ended left.0 (head left.2) refl)) (head left.2)
    (y (scanned left.0).rest right.0 right.1 (ended right.0 (head right.2) refl))
    (head right.2))

complete_brackets : {d : ℕ} {ts : List Token} {f : Typed} {s s' : List ℕ} → Spells s (ts ++ (Close ∷ [])) s'
    → ((s₁ : List ℕ) → Spells s ts s₁ → Completed implication d s f s₁) → Parses (behind Open) (Prim.Native.Nat.suc d) s f s'
complete_brackets {ts = ts} sp x =
    let w = split ts sp in
    to (nothing (rest w.2)) (a_bracket (x w.0 w.1 (ended w.0 (head w.2) refl)) (head w.2))

pub complete : {r : Rank} {d : ℕ} {ts : List Token} {f : Typed} → Reads r d ts f → {s s₁ : List ℕ} → Spells s ts s₁ → Completed r d s f s₁
complete by_name sp = to (nothing (rest sp)) (a_closest (head sp) a_name)
complete by_true sp = to (nothing (rest sp)) (a_closest (head sp) a_true)
complete by_false sp = to (nothing (rest sp)) (a_closest (head sp) a_false)
complete (by_not r) sp = a_closest (head sp) (a_not (complete r (rest sp)))
complete (by_temporal r) sp = a_closest (head sp) (a_temporal (complete r (rest sp)))
complete (by_until {q = q} r r') sp = a_closest (head sp) (complete_until (rest sp) (λ s₁ sq. complete r sq) (λ s₁ s₂ sq. complete r' sq) q)
complete (by_brackets r) sp = a_closest (head sp) (complete_brackets (rest sp) (λ s₁ sq. complete r sq))
complete (as_conjunction r) sp = λ g s' m. a_conjunction (complete r sp) m
complete (by_and {ts = ts} r r') sp =
    λ g s' m. let w = split ts sp in complete r w.1 g s' (one_more_and (head w.2) (complete r' (rest w.2)) m)
complete (as_disjunction {f = f} r) {s₁ = s₁} sp = λ n g s' m. a_disjunction (complete r sp f s₁ (no_more_and n)) m
complete (by_or {ts = ts} {g = h} r r') {s₁ = s₁} sp =
    λ n g s' m.
    let w = split ts sp in
    complete r w.1 (ends w.0 (head w.2) (λ z. omega arith)) g s'
    (one_more_or (head w.2) (complete r' (rest w.2) h s₁ (no_more_and n)) m)
complete (as_implication {f = f} r) {s₁ = s₁} sp = λ n. no_arrow (complete r sp n.0 f s₁ (no_more_or n.1)) n.2
complete (by_arrow {ts = ts} {f = f} r r') sp =
    λ n.
    let w = split ts sp in
    an_arrow
    (complete r w.1 (ends w.0 (head w.2) (λ z. omega arith)) f w.0 (no_more_or (ends w.0 (head w.2) (λ z. omega arith))))
    (head w.2) (complete r' (rest w.2) n)

-- ---- and of these there is at most one
abbrev pub Same : Typed → Typed → List ℕ → List ℕ → Type 0
Same f g s r = (f ≡ g) × (s ≡ r)

-- the same place, and the same part read before
at : {g h : Goal} {d : ℕ} {s r : List ℕ} {f : Typed} {s' : List ℕ} → g ≡ h → s ≡ r → Parses g d s f s' → Parses h d r f s'
at {h = h} {d} {s} {f = f} {s' = s'} p q x = subst (λ (r : List ℕ). Parses h d r f s') q (subst (λ (k : Goal). Parses k d s f s') p x)

pub same : {g : Goal} {d : ℕ} {s : List ℕ} {f f' : Typed} {r r' : List ℕ} → Parses g d s f r → Parses g d s f' r' → Same f f' r r'
same (a_closest e x) (a_closest e' x') = same x (at (ap behind (sym e' ∙ e)) refl x')
same a_name a_name = (refl, refl)
same a_true a_true = (refl, refl)
same a_false a_false = (refl, refl)
same (a_not x) (a_not x') = let w = same x x' in (ap negated w.0, w.1)
same (a_temporal {q = q} {o = o} x) (a_temporal x') = let w = same x x' in (ap (along q o) w.0, w.1)
same (a_until {q = q} e x u y z) (a_until e' x' u' y' z') =
    let w = same x x' in
    let v = same y (at refl (ap (λ (s : List ℕ). (scanned s).rest) (sym w.1)) y') in
    (ap₂ (until q) w.0 v.0, ap (λ (s : List ℕ). (scanned s).rest) v.1)
same (a_bracket x z) (a_bracket x' z') = let w = same x x' in (w.0, ap (λ (s : List ℕ). (scanned s).rest) w.1)
same (a_conjunction x m) (a_conjunction x' m') = let w = same x x' in same m (at (ap more_and (sym w.0)) (sym w.1) m')
same (no_more_and n) (no_more_and n') = (refl, refl)
same (no_more_and n) (one_more_and e x m) = absurd (n e)
same (one_more_and e x m) (no_more_and n) = absurd (n e)
same (one_more_and {f = f} e x m) (one_more_and e' x' m') =
    let w = same x x' in same m (at (ap (λ (g : Typed). more_and (and f g)) (sym w.0)) (sym w.1) m')
same (a_disjunction x m) (a_disjunction x' m') = let w = same x x' in same m (at (ap more_or (sym w.0)) (sym w.1) m')
same (no_more_or n) (no_more_or n') = (refl, refl)
same (no_more_or n) (one_more_or e x m) = absurd (n e)
same (one_more_or e x m) (no_more_or n) = absurd (n e)
same (one_more_or {f = f} e x m) (one_more_or e' x' m') =
    let w = same x x' in same m (at (ap (λ (g : Typed). more_or (or f g)) (sym w.0)) (sym w.1) m')
same (no_arrow x n) (no_arrow x' n') = same x x'
same (no_arrow x n) (an_arrow x' e y) = let w = same x x' in absurd (n (ap (λ (s : List ℕ). (scanned s).token) w.1 ∙ e))
same (an_arrow x e y) (no_arrow x' n) = let w = same x x' in absurd (n (ap (λ (s : List ℕ). (scanned s).token) (sym w.1) ∙ e))
same (an_arrow {f = f} x e y) (an_arrow x' e' y') =
    let w = same x x' in
    let v = same y (at refl (ap (λ (s : List ℕ). (scanned s).rest) (sym w.1)) y') in
    (ap₂ implies w.0 v.0, v.1)

-- ---- so a text reads as one list of rules at most
-- the tokens with which a closest part begins
abbrev pub begins : Token → Bool
begins (Name p) = true
begins True = true
begins False = true
begins Not = true
begins (Temporal q o) = true
begins (Path q) = true
begins Until = false
begins And = false
begins Or = false
begins Implies = false
begins Open = true
begins Close = false
begins OpenSquare = false
begins CloseSquare = false
begins Line = false
begins End = false
begins Wrong = false

pub begun : {t : Token} {d : ℕ} {f : Typed} {s s' : List ℕ} → Parses (behind t) d s f s' → begins t ≡ true
begun a_name = refl
begun a_true = refl
begun a_false = refl
begun (a_not x) = refl
begun (a_temporal x) = refl
begun (a_until e x u y z) = refl
begun (a_bracket x z) = refl

-- no part is read of nothing
none_of : {r : Rank} {d : ℕ} {f : Typed} {s : List ℕ} → Parses (part r) d [] f s → ⊥
unfolding scanned first behind_spaces
none_of (a_closest e x) = false≢true (ap begins e ∙ begun x)
none_of (a_conjunction x m) = none_of x
none_of (a_disjunction x m) = none_of x
none_of (no_arrow x n) = none_of x
none_of (an_arrow x e y) = none_of x

-- the rule of a line, from its first token to its last
pub line_parses : {s s₁ : List ℕ} {ts : List Token} {f : Typed} → Spells s ts s₁ → Reads implication most_depth ts f → (scanned s₁).token ≡ Line → Parses (part implication) most_depth s f s₁
line_parses {s₁ = s₁} sp r e = complete r sp (ended s₁ e refl)

pub unique : {s : List ℕ} {fs gs : List Typed} → Lines s fs → Lines s gs → fs ≡ gs
unique Lines.none Lines.none = refl
unique Lines.none (Lines.line sp r e l) = absurd (none_of (line_parses sp r e))
unique (Lines.line sp r e l) Lines.none = absurd (none_of (line_parses sp r e))
unique (Lines.line sp r e l) (Lines.line {fs = gs} sp' r' e' l') =
    let w = same (line_parses sp r e) (line_parses sp' r' e') in
    ap₂ ◌∷◌ w.0 (unique l (subst (λ (s : List ℕ). Lines (scanned s).rest gs) (sym w.1) l'))
