-- The numbers of the refusals are different, and none is 0; and what an answer by number says of the result that it is of.
use mathlib.Core.Path.{◌≡◌, refl, sym, ap, ◌∙◌}
use mathlib.Core.Bool.{cond}
use mathlib.Core.Logic.{◌↔◌}
use Prim.Native.Nat.{ℕ, ◌<◌}
use native.Mathlib.Omega.{arith}
use lib.Dec.{eqb}
use Rattle.std.specs.Prelude.{Result, Ok, Err, IsOk}
use Rattle.refusals.specs.declared.refusal.Refusal.{Refusal}
use Rattle.refusals.specs.declared.refusal.Refusal.TheVariants as refusal
use Rattle.refusals.specs.Answered.{number, done, refused, answered, refusal_of}

-- ---- the refusal that has a number
named : ℕ → Refusal
named n =
    cond (eqb n 1) refusal.Length
    (cond (eqb n 2) refusal.BlockCheck
    (cond (eqb n 3) refusal.BlockHeader
    (cond (eqb n 4) refusal.RecordCount
    (cond (eqb n 5) refusal.State
    (cond (eqb n 6) refusal.StateKind
    (cond (eqb n 7) refusal.Formula
    (cond (eqb n 8) refusal.UnusedByte
    (cond (eqb n 9) refusal.Positions
    (cond (eqb n 10) refusal.ConverterSize
    (cond (eqb n 11) refusal.ConverterRecord
    (cond (eqb n 12) refusal.Room
    (cond (eqb n 13) refusal.Work
    (cond (eqb n 14) refusal.Unmatched
    (cond (eqb n 15) refusal.RuleFails
    (cond (eqb n 16) refusal.NoneWorks
    (cond (eqb n 17) refusal.NoStep
    (cond (eqb n 19) refusal.Text
    (cond (eqb n 20) refusal.Existential
    (cond (eqb n 21) refusal.TextSize
    (cond (eqb n 22) refusal.RangeList refusal.SideSize))))))))))))))))))))

named_number : (e : Refusal) → named (number e) ≡ e
unfolding named
named_number refusal.Length = refl
named_number refusal.BlockCheck = refl
named_number refusal.BlockHeader = refl
named_number refusal.RecordCount = refl
named_number refusal.State = refl
named_number refusal.StateKind = refl
named_number refusal.Formula = refl
named_number refusal.UnusedByte = refl
named_number refusal.Positions = refl
named_number refusal.ConverterSize = refl
named_number refusal.ConverterRecord = refl
named_number refusal.Room = refl
named_number refusal.Work = refl
named_number refusal.Unmatched = refl
named_number refusal.RuleFails = refl
named_number refusal.NoneWorks = refl
named_number refusal.NoStep = refl
named_number refusal.Text = refl
named_number refusal.Existential = refl
named_number refusal.TextSize = refl
named_number refusal.RangeList = refl
named_number refusal.SideSize = refl

-- one number, one refusal
pub number_once : (d e : Refusal) → number d ≡ number e → d ≡ e
number_once d e same = sym (named_number d) ∙ ap named same ∙ named_number e

pub number_some : (e : Refusal) → 0 < number e
number_some refusal.Length = omega arith
number_some refusal.BlockCheck = omega arith
number_some refusal.BlockHeader = omega arith
number_some refusal.RecordCount = omega arith
number_some refusal.State = omega arith
number_some refusal.StateKind = omega arith
number_some refusal.Formula = omega arith
number_some refusal.UnusedByte = omega arith
number_some refusal.Positions = omega arith
number_some refusal.ConverterSize = omega arith
number_some refusal.ConverterRecord = omega arith
number_some refusal.Room = omega arith
number_some refusal.Work = omega arith
number_some refusal.Unmatched = omega arith
number_some refusal.RuleFails = omega arith
number_some refusal.NoneWorks = omega arith
number_some refusal.NoStep = omega arith
number_some refusal.Text = omega arith
number_some refusal.Existential = omega arith
number_some refusal.TextSize = omega arith
number_some refusal.RangeList = omega arith
number_some refusal.SideSize = omega arith

-- ---- results
module _ {A : Type 0} where
  -- a result refuses nothing where it has a value, and only there
  pub refusal_none : (r : Result A Refusal) → refusal_of r ≡ 0 ↔ IsOk r
  refusal_none (Ok x) = (λ e. refl, λ k. refl)
  refusal_none (Err d) = (λ e. absurd (omega (arith, number_some d)), λ k. cc)

  -- what a result is by its answer
  pub by_done : (r : Result A Refusal) (x : A) → answered r ≡ done x → r ≡ Ok x
  by_done (Ok y) x e = cc
  by_done (Err d) x e = cc

  pub by_refused : (r : Result A Refusal) (e : Refusal) → answered r ≡ refused (number e) → r ≡ Err e
  by_refused (Ok y) e same = cc
  by_refused (Err d) e same = ap Err (number_once d e cc)
