-- The refusals of `gorzhani_positions`, the design's own first and then 9; what is known of a design that passes them; and the number in either case.
use mathlib.Core.Path.{◌≡◌, refl, sym, ◌∙◌}
use mathlib.Core.List.{List, [], ◌∷◌}
use Prim.Native.Nat.{ℕ, ◌*◌, ◌^◌, ◌≤◌}
use native.Mathlib.Nat.{mul-le-mul, le-max_left}
use borrow.Author.Tests.{leb-true}
use lib.Dec.{lit<}
use lib.IntN.{pos}
use lib.Pow.{pow_pos}
use Rattle.model.specs.Judged.{all}
use Rattle.model.specs.Positions.{kept_count, until_count, joint_count, positions}
use Rattle.layout.specs.Sizes.{most_positions}
use Rattle.layout.specs.Designs.{design}
use Rattle.refusals.specs.Refusals.{first_failing, design_tests, design_refusal, positions_test}
use Rattle.refusals.proofs.Passing.{passed, refused_first, refused_later, none_first}
use Rattle.refusals.proofs.WellFormed.{accepted_counts}
use Rattle.positions.proofs.PositionCount.{some_joint}
use Rattle.refusals.specs.Counted.{Accepted}
use Rattle.refusals.proofs.ByRefusal.{where_none, where_some}
use Rattle.gorzhani.specs.Codes.{refusal_code}
use Rattle.gorzhani.specs.Calls.{positions_refusal, positions_number}

module _ (ds : List ℕ) where
  pub refused_by_design : (design_refusal ds ≡ 0 → ⊥) → positions_refusal ds ≡ design_refusal ds
  unfolding positions_refusal design_refusal
  refused_by_design n = refused_first (design_tests ds) (positions_test ds ∷ []) n

  pub refused_behind : design_refusal ds ≡ 0 → positions_refusal ds ≡ first_failing (positions_test ds ∷ [])
  unfolding positions_refusal design_refusal all
  refused_behind e = refused_later (design_tests ds) (positions_test ds ∷ []) refl e

  pub taken : positions_refusal ds ≡ 0 → Accepted ds
  unfolding positions_refusal design_refusal
  taken e =
      let d : design_refusal ds ≡ 0 = none_first (design_tests ds) (positions_test ds ∷ []) e in
      record { refusal = d; few = leb-true (positions (design ds)) most_positions (passed (positions_test ds) [] (lit< tt) (sym (refused_behind d) ∙ e)).0 }

  pub some_position : design_refusal ds ≡ 0 → 1 ≤ positions (design ds)
  unfolding positions
  some_position e =
      let D = design ds in
      let owed : 1 * 1 ≤ joint_count D.sides * 2 ^ kept_count D = mul-le-mul (some_joint ds (accepted_counts ds e)) (pow_pos (kept_count D)) in
      mul-le-mul owed (le-max_left 1 (until_count D.forms))

  pub number_taken : positions_refusal ds ≡ 0 → positions_number ds ≡ pos (positions (design ds))
  number_taken = where_none (positions_refusal ds) (pos (positions (design ds))) (refusal_code (positions_refusal ds))

  pub number_refused : (positions_refusal ds ≡ 0 → ⊥) → positions_number ds ≡ refusal_code (positions_refusal ds)
  number_refused = where_some (positions_refusal ds) (pos (positions (design ds))) (refusal_code (positions_refusal ds))
