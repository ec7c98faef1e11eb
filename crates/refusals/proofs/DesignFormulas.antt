-- Test 7 of a design's formulas, as the code makes it: formula by formula.
use mathlib.Core.Path.{◌≡◌, sym, ap, ◌∙◌}
use mathlib.Core.Bool.{Bool, ◌&&◌}
use mathlib.Core.List.{List}
use Prim.Native.Nat.{ℕ}
use lib.ListN.{length, get_or}
use Rattle.model.specs.Formulas.{truth}
use Rattle.layout.specs.Tables.{every}
use Rattle.layout.specs.Bytes.{byte}
use Rattle.layout.specs.Formulas.{known_kind, formula_at, formula_of}
use Rattle.layout.specs.Blocks.{formulas, record_place}
use Rattle.layout.specs.Designs.{held, design, stored_formula}
use Rattle.layout.specs.Tests.{form_right, forms_right}
use Rattle.refusals.specs.Refusals.{kinds_known}
use Rattle.layout.proofs.DesignBytes.{forms_length, stored_formula_is}
use Rattle.refusals.proofs.Ranges.{every_cong, every_both}

module _ (bs : List ℕ) where
  -- formula k passes
  abbrev pub passes : ℕ → Bool
  passes k = known_kind (stored_formula bs k).kind && form_right k (formula_of (stored_formula bs k))

  abbrev n : ℕ
  n = length (design bs).forms

  pub formulas_pass : (kinds_known bs && forms_right (design bs).forms) ≡ every n passes
  unfolding kinds_known forms_right stored_formula formula_at
  formulas_pass =
      let known : ℕ → Bool = λ k. known_kind (byte bs (record_place (formulas (held bs)) k)) in
      let right : ℕ → Bool = λ k. form_right k (get_or (design bs).forms k truth) in
      ap (λ m. every m known && every n right) (sym (forms_length bs))
      ∙ sym (every_both known right n)
      ∙ every_cong _ passes n (λ k h. ap (λ f. known k && form_right k f) (sym (stored_formula_is bs k h)))
