-- Tokens at places of a text, and what a reading goes on with behind one.
use mathlib.Core.Path.{◌≡◌, sym, subst, ◌∙◌}
use mathlib.Core.List.{List, [], ◌∷◌, ◌++◌}
use Prim.Native.Nat.{ℕ}
use lib.ListN.{drop}
use Rattle.tokens.specs.declared.Found.{Found}
use Rattle.tokens.specs.declared.Token.{Token}
use Rattle.tokens.specs.declared.Token.TheVariants.{Not, Temporal, End}
use Rattle.tokens.specs.Tokens.{scanned}
use Rattle.tokens.specs.Scans.{Scans}
use Rattle.typed.specs.Grammar.{Typed, Spells, closest}
use Rattle.typed.specs.Parses.{part, behind, Parses, a_closest, a_not, a_temporal}
use Rattle.typed.proofs.Unique.{joined}
use Rattle.rules.specs.Reading.{Stands}

-- a token that was found stands there
pub stands : (text : List ℕ) (at : ℕ) (r : Found) (t : Token) → (t ≡ End → ⊥) → Scans text at r → r.token ≡ t → Stands text at t r.next
stands text at r t n s e =
    record {
      token = sym s.found.token ∙ e;
      left = sym s.found.left;
      ahead = s.ahead (λ z. n (sym e ∙ z));
      inside = s.found.place.inside;
    }

-- one token more is spelled
pub spelled_on : {text : List ℕ} {at next : ℕ} {t : Token} {s : List ℕ} {ts : List Token} → Spells s ts (drop at text) → Stands text at t next → Spells s (ts ++ (t ∷ [])) (drop next text)
spelled_on {text} {at} {next} {t} sp w =
    joined sp (Spells.one w.token (subst (λ (r : List ℕ). Spells (scanned (drop at text)).rest [] r) w.left Spells.none))

-- ---- a closest part behind its first token
of_closest : {t : Token} {d : ℕ} (s : List ℕ) {f : Typed} {r : List ℕ} → Parses (part closest) d s f r → (scanned s).token ≡ t → Parses (behind t) d (scanned s).rest f r
of_closest {d = d} s {f} {r} (a_closest e x) w = subst (λ (k : Token). Parses (behind k) d (scanned s).rest f r) (sym e ∙ w) x

pub behind_token : {text : List ℕ} {at next d : ℕ} {t : Token} {f : Typed} {r : List ℕ} → Stands text at t next → Parses (part closest) d (drop at text) f r → Parses (behind t) d (drop next text) f r
behind_token {text} {at} {d = d} {t} {f} {r} w x = subst (λ (s : List ℕ). Parses (behind t) d s f r) w.left (of_closest (drop at text) x w.token)

pub behind_not : {d : ℕ} {s : List ℕ} {f : Typed} {r : List ℕ} → Parses (behind Not) d s f r → (e : Typed) × Parses (part closest) d s e r
behind_not (a_not {f = f} x) = (f, x)

pub behind_temporal : {q : _} {o : _} {d : ℕ} {s : List ℕ} {f : Typed} {r : List ℕ} → Parses (behind (Temporal q o)) d s f r → (e : Typed) × Parses (part closest) d s e r
behind_temporal (a_temporal {f = f} x) = (f, x)
