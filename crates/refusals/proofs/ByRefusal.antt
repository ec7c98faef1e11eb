-- What is chosen by a refusal: one thing where it is 0, which is none, and another where it is some number.
use mathlib.Core.Path.{◌≡◌, ap}
use mathlib.Core.Bool.{cond}
use Prim.Native.Nat.{ℕ}
use borrow.Author.Tests.{eq-eqb, ne_eqb}
use lib.Dec.{eqb}

module _ {A : Type 0} (refusal : ℕ) (done declined : A) where
  pub where_none : refusal ≡ 0 → cond (eqb refusal 0) done declined ≡ done
  where_none e = ap (λ b. cond b done declined) (eq-eqb refusal 0 e)

  pub where_some : (refusal ≡ 0 → ⊥) → cond (eqb refusal 0) done declined ≡ declined
  where_some n = ap (λ b. cond b done declined) (ne_eqb refusal 0 n)
