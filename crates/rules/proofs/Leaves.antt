-- Closest parts of one token, which are names and constants, and tokens with which none begins.
use mathlib.Core.Path.{◌≡◌, refl, sym, ap, subst, ◌∙◌}
use mathlib.Core.Bool.{true, false, true≢false}
use mathlib.Core.List.{List, [], ◌∷◌, ◌++◌, flatten}
use Prim.Native.Nat.{ℕ, ◌%◌, ◌<◌}
use native.Mathlib.Nat.{mod-eq_of_lt}
use native.Mathlib.Omega.{arith}
use Rattle.tokens.specs.declared.Found.{Found}
use Rattle.tokens.specs.declared.Quantifier.{Quantifier}
use Rattle.tokens.specs.declared.Token.{Token}
use Rattle.tokens.specs.declared.Token.TheVariants.{Name, True, False, Not, Temporal, Path, Until, And, Or, Implies, Open, Close, OpenSquare, CloseSquare, Line, End, Wrong}
use Rattle.tokens.specs.Tokens.{scanned}
use Rattle.tokens.specs.Scans.{Scans}
use Rattle.typed.specs.Grammar.{Typed, named, constant, closest, Reads, by_name, by_true, by_false, Spells}
use Rattle.typed.specs.Parses.{a_closest}
use Rattle.typed.specs.Records.{pushed, formula_for, size, records, form_to, forms_to}
use Rattle.typed.proofs.Unique.{begins, begun}
use Rattle.rules.specs.declared.parts.Grade.TheVariants.{Plain}
use Rattle.rules.specs.declared.parts.Part.{Part}
use Rattle.rules.specs.declared.records.Kind.{Kind}
use Rattle.rules.specs.declared.records.Kind.TheVariants as kind
use Rattle.rules.specs.declared.records.Store.{Store}
use Rattle.rules.specs.declared.records.Entry.{Entry}
use Rattle.rules.specs.Making.{number, front, below}
use Rattle.rules.specs.Grades.{grade}
use Rattle.rules.specs.Reading.{Leaf, Nothing, Read, is_prefix}
use Rattle.rules.proofs.Places.{stands, spelled_on}

module _ {text : List ℕ} {room at : ℕ} {found : Found} {st : Store} {p : Part} {st' : Store} (s : Scans text at found) where
  -- a part of one token and one record
  one_token : {t : Token} {kind : Kind} {a : ℕ} (f : Typed) → Reads closest room (t ∷ []) f → begins t ≡ true → grade f ≡ Plain → size (formula_for f) ≡ 1
      → forms_to (records st.count (formula_for f)) ≡ number kind ∷ a % 256 ∷ 0 ∷ 0 ∷ [] → found.token ≡ t → Leaf kind a found.next st p st' → Read text closest room at st p st'
  one_token {t} f r b g n bytes e x =
      let w = stands text at found t (λ z. true≢false (sym b ∙ ap begins z)) s e in
      let y = x.adds in
      subst (λ (q : Part). Read text closest room at st q st') (sym x.part)
      (record {
        takes =
            record {
              tree = f;
              tokens = t ∷ [];
              spelled = spelled_on Spells.none w;
              reads = r;
              ahead = w.ahead;
              inside = w.inside;
              graded = sym g;
              counted = omega arith;
              slim = omega (arith, w.ahead);
              made = λ right few. y.added (omega arith) ∙ ap (λ (bs : List ℕ). front st.records st.count ++ bs) (sym bytes);
              kept = ap (λ (ps : List Entry). below ps st.height) y.pending;
            };
        ends = tt;
        count = y.counted;
        height = y.height;
      })

  -- a name, which is a byte
  pub name_read : {i : ℕ} → i < 256 → found.token ≡ Name i → Leaf kind.Proposition i found.next st p st' → Read text closest room at st p st'
  unfolding grade pushed size records forms_to form_to flatten
  name_read {i} l e x = one_token (named i) by_name refl refl refl (ap (λ (k : ℕ). 3 ∷ k ∷ 0 ∷ 0 ∷ []) (sym (mod-eq_of_lt l))) e x

  -- TRUE
  pub true_read : found.token ≡ True → Leaf kind.True 0 found.next st p st' → Read text closest room at st p st'
  unfolding grade pushed size records forms_to form_to flatten
  true_read e x = one_token (constant true) by_true refl refl refl refl e x

  -- FALSE
  pub false_read : found.token ≡ False → Leaf kind.False 0 found.next st p st' → Read text closest room at st p st'
  unfolding grade pushed size records forms_to form_to flatten
  false_read e x = one_token (constant false) by_false refl refl refl refl e x

-- the token is no name, no constant, no path and no (
pub record Other (t : Token) : Type 0 where
  pub no_name : (i : ℕ) → t ≡ Name i → ⊥
  pub no_true : t ≡ True → ⊥
  pub no_false : t ≡ False → ⊥
  pub no_path : (q : Quantifier) → t ≡ Path q → ⊥
  pub no_open : t ≡ Open → ⊥

-- with such, where they are no prefixes, no closest part begins
begins_none : (t : Token) → is_prefix t ≡ false → Other t → begins t ≡ false
begins_none (Name i) e o = absurd (o.no_name i refl)
begins_none True e o = absurd (o.no_true refl)
begins_none False e o = absurd (o.no_false refl)
begins_none Not e o = absurd (true≢false e)
begins_none (Temporal q p) e o = absurd (true≢false e)
begins_none (Path q) e o = absurd (o.no_path q refl)
begins_none Until e o = refl
begins_none And e o = refl
begins_none Or e o = refl
begins_none Implies e o = refl
begins_none Open e o = absurd (o.no_open refl)
begins_none Close e o = refl
begins_none OpenSquare e o = refl
begins_none CloseSquare e o = refl
begins_none Line e o = refl
begins_none End e o = refl
begins_none Wrong e o = refl

-- so none stands where one of them does
pub none_read : {room : ℕ} {s : List ℕ} {t : Token} → t ≡ (scanned s).token → is_prefix (scanned s).token ≡ false → Other t → Nothing closest room s
none_read {t = t} e n o f s' (a_closest d x) =
    true≢false (sym (begun x) ∙ ap begins (sym d) ∙ ap begins (sym e) ∙ begins_none t (ap is_prefix e ∙ n) o)
