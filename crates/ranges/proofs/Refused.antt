-- The call's refusals in their order, and what has passed where it refuses nothing.
use mathlib.Core.Path.{◌≡◌, refl, sym, ◌∙◌}
use mathlib.Core.Bool.{true, cond}
use mathlib.Core.List.{List}
use Prim.Native.Nat.{ℕ, ◌≤◌}
use native.Mathlib.Omega.{arith}
use borrow.Author.Tests.{leb-true}
use lib.Dec.{leb}
use lib.ListN.{length}
use Rattle.model.specs.Judged.{all}
use Rattle.refusals.specs.Refusals.{design_tests, design_refusal, first_failing}
use Rattle.refusals.proofs.Passing.{refused_first, passed, none_first, refused_later}
use Rattle.ranges.specs.Entries.{list_right, sides_fit}
use Rattle.ranges.specs.Ranges.{own_tests, ranges_refusal}

module _ (ds es : List ℕ) (room : ℕ) where
  pub design_refused : (design_refusal ds ≡ 0 → ⊥) → ranges_refusal ds es room ≡ design_refusal ds
  unfolding ranges_refusal design_refusal
  design_refused n = refused_first (design_tests ds) (own_tests ds es room) n

  -- behind a design that passes
  pub behind_design : design_refusal ds ≡ 0 → ranges_refusal ds es room ≡ cond (list_right ds es) (cond (sides_fit ds es) (cond (leb (length ds) room) 0 12) 23) 22
  unfolding ranges_refusal design_refusal first_failing all
  behind_design d = refused_later (design_tests ds) (own_tests ds es room) refl d

  -- what has passed where nothing is refused
  pub record Passed : Type 0 where
    pub designed : design_refusal ds ≡ 0
    pub listed : list_right ds es ≡ true
    pub fitting : sides_fit ds es ≡ true
    pub roomy : length ds ≤ room

  pub passes : ranges_refusal ds es room ≡ 0 → Passed
  unfolding ranges_refusal design_refusal all
  passes e =
      let d = none_first (design_tests ds) (own_tests ds es room) e in
      let a = passed _ _ (omega arith) (sym (refused_later (design_tests ds) (own_tests ds es room) refl d) ∙ e) in
      let b = passed _ _ (omega arith) a.1 in
      let c = passed _ _ (omega arith) b.1 in
      record { designed = d; listed = a.0; fitting = b.0; roomy = leb-true (length ds) room c.0 }
