-- A design of four blocks: it is that of the two sides which its first two blocks spell, with the resting side behind them. Where no formula names a label over 31
-- it has the verdicts of the two sides, and the converters are those of the two sides with zeros added.
use mathlib.Core.Path.{◌≡◌, ap, subst, subst⁻¹, ◌∙◌}
use mathlib.Core.Bool.{cond}
use mathlib.Core.Logic.{◌↔◌}
use mathlib.Core.List.{List, [], ◌∷◌}
use Prim.Native.Nat.{ℕ}
use lib.Dec.{ltb}
use Rattle.model.specs.Sides.{Side}
use Rattle.model.specs.Converters.{Converter}
use Rattle.model.specs.Formulas.{Propositions}
use Rattle.model.specs.Designs.{Design, WellFormed, NoneWorks}
use Rattle.model.specs.Positions.{positions}
use Rattle.model.specs.Judged.{judged}
use Rattle.model.specs.Resting.{resting, rested, rested_design}
use Rattle.model.proofs.Rested.{formed_rested, judged_rested, none_works_rested, positions_rested}
use Rattle.layout.specs.Sizes.{least_sides}
use Rattle.layout.specs.Tables.{table, table_from}
use Rattle.layout.specs.Blocks.{kernel, host, service}
use Rattle.layout.specs.Designs.{held, side_in, side_of, forms_in, rules_in, design}
use Rattle.refusals.specs.Refusals.{design_refusal}
use Rattle.refusals.proofs.WellFormed.{well_formed}

module _ (bs : List ℕ) where
  -- the design of the two sides
  abbrev pub of_two : Design
  of_two = record { sides = side_in bs kernel ∷ side_in bs host ∷ []; forms = forms_in bs; rules = rules_in bs }

  module _ (four : held bs ≡ least_sides) where
    pub rested_is : design bs ≡ rested_design of_two
    unfolding design side_of table table_from
    rested_is = ap (λ n. record { sides = sides_of n; forms = forms_in bs; rules = rules_in bs }) four
      where
        -- the sides of a design in which n have a block
        sides_of : ℕ → List Side
        sides_of n = cond (ltb 0 n) (side_in bs kernel) resting ∷ cond (ltb 1 n) (side_in bs host) resting ∷ cond (ltb 2 n) (side_in bs service) resting ∷ []

    pub same_positions : positions (design bs) ≡ positions of_two
    same_positions = ap positions rested_is ∙ positions_rested of_two

    module _ (accepted : design_refusal bs ≡ 0) (low : Propositions least_sides (forms_in bs)) where
      pub two_formed : WellFormed of_two
      two_formed = (formed_rested of_two).1 (subst WellFormed rested_is (well_formed bs accepted), low)

      pub same_verdict : (C : Converter) → judged of_two C ≡ judged (design bs) (rested C)
      same_verdict C = subst⁻¹ (λ (D : Design). judged of_two C ≡ judged D (rested C)) rested_is (judged_rested of_two two_formed C)

      pub same_none : NoneWorks of_two ↔ NoneWorks (design bs)
      same_none = subst⁻¹ (λ (D : Design). NoneWorks of_two ↔ NoneWorks D) rested_is (none_works_rested of_two two_formed.each_side)
