-- Refusals in order: where a list of tests refuses nothing each test passes, and the other way round; and one list of tests behind another.
use mathlib.Core.Path.{◌≡◌, refl, sym, ap, ◌∙◌}
use mathlib.Core.Bool.{Bool, true, false, cond}
use mathlib.Core.List.{List, [], ◌∷◌, ◌++◌}
use Prim.Native.Nat.{ℕ, ◌<◌}
use native.Mathlib.Decide.{ℕ_discrete}
use native.Mathlib.Omega.{arith}
use borrow.Author.Tests.{ltb-true}
use lib.Dec.{T, ltb}
use Rattle.model.specs.Judged.{all}
use Rattle.model.proofs.Bools.{T_true}
use Rattle.refusals.specs.Refusals.{Test, first_failing}
use Rattle.layout.proofs.Tables.{and_left, and_right}

at_first : (b : Bool) (n m : ℕ) → 0 < n → cond b m n ≡ 0 → T b × (m ≡ 0)
at_first true n m h e = (tt, e)
at_first false n m h e = absurd (omega arith)

-- the first passes, and the rest refuse nothing
pub passes : (t : Test) (ts : List Test) → 0 < t.number → first_failing (t ∷ ts) ≡ 0 → T t.passes × (first_failing ts ≡ 0)
unfolding first_failing
passes t ts h e = at_first t.passes t.number (first_failing ts) h e

pub passed : (t : Test) (ts : List Test) → 0 < t.number → first_failing (t ∷ ts) ≡ 0 → (t.passes ≡ true) × (first_failing ts ≡ 0)
passed t ts h e = let w = passes t ts h e in (T_true t.passes w.0, w.1)

-- a test that passes leaves the answer to the rest
pub passes_on : (t : Test) (ts : List Test) → t.passes ≡ true → first_failing (t ∷ ts) ≡ first_failing ts
unfolding first_failing
passes_on t ts p = ap (λ x. cond x (first_failing ts) t.number) p

-- and one that fails gives its number
pub stops_at : (t : Test) (ts : List Test) → t.passes ≡ false → first_failing (t ∷ ts) ≡ t.number
unfolding first_failing
stops_at t ts e = ap (λ b. cond b (first_failing ts) t.number) e

-- tests whose numbers are below n give a number below n
pub failing_below : (n : ℕ) (ts : List Test) → 0 < n → all (λ t. ltb t.number n) ts ≡ true → first_failing ts < n
unfolding first_failing all
failing_below n [] h a = h
failing_below n (t ∷ ts) h a = by t.passes (failing_below n ts h (and_right (ltb t.number n) (all (λ t. ltb t.number n) ts) a))
  where
    by : (b : Bool) → first_failing ts < n → cond b (first_failing ts) t.number < n
    by true l = l
    by false l = ltb-true t.number n (and_left (ltb t.number n) (all (λ t. ltb t.number n) ts) a)

-- ---- one list behind another
-- a refusal by the first list is the answer
pub refused_first : (ts us : List Test) → (first_failing ts ≡ 0 → ⊥) → first_failing (ts ++ us) ≡ first_failing ts
unfolding first_failing
refused_first [] us n = absurd (n refl)
refused_first (t ∷ ts) us n = by t.passes refl (refused_first ts us)
  where
    by : (b : Bool) → t.passes ≡ b → ((first_failing ts ≡ 0 → ⊥) → first_failing (ts ++ us) ≡ first_failing ts)
        → cond t.passes (first_failing (ts ++ us)) t.number ≡ cond t.passes (first_failing ts) t.number
    by true p rec = rw p (rec (λ e. n (rw p e)))
    by false p rec = rw p

-- where it refuses nothing, the second list answers
pub refused_later : (ts us : List Test) → all (λ t. ltb 0 t.number) ts ≡ true → first_failing ts ≡ 0 → first_failing (ts ++ us) ≡ first_failing us
unfolding all
refused_later [] us a e = refl
refused_later (t ∷ ts) us a e =
    let n : 0 < t.number = ltb-true 0 t.number (and_left (ltb 0 t.number) (all (λ t. ltb 0 t.number) ts) a) in
    let p = passed t ts n e in
    passes_on t (ts ++ us) p.0 ∙ refused_later ts us (and_right (ltb 0 t.number) (all (λ t. ltb 0 t.number) ts) a) p.1

-- where both lists refuse nothing, the first doesn't
pub none_first : (ts us : List Test) → first_failing (ts ++ us) ≡ 0 → first_failing ts ≡ 0
none_first ts us e = elim (ℕ_discrete (first_failing ts) 0) [ yes p ↦ p | no n ↦ absurd (n (sym (refused_first ts us n) ∙ e)) ]
