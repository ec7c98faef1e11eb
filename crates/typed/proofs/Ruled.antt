-- What the request asks: where the blocks of a text's rules stand behind those of the sides, rule i of the design holds exactly where line i of the text is true.
use mathlib.Core.Path.{◌≡◌, ap, ap₂, subst, subst⁻¹, ◌∙◌}
use mathlib.Core.Bool.{true, false}
use mathlib.Core.Logic.{◌↔◌}
use mathlib.Core.List.{List, ◌++◌, map, Memᴰ as In}
use Prim.Native.Nat.{ℕ, ◌*◌, ◌≤◌, ◌<◌}
use native.Mathlib.Omega.{arith}
use lib.ListN.{length, get_or, length-map}
use Rattle.model.specs.Actl.{Actl, falsum, System, Holds}
use Rattle.model.specs.Formulas.{formula}
use Rattle.model.proofs.Lists.{get_or_in, get_or_map, of_map}
use Rattle.layout.specs.Sizes.{side_count, least_sides, most_formulas, most_rules, block_bytes}
use Rattle.layout.specs.Designs.{design}
use Rattle.refusals.specs.Refusals.{design_refusal}
use Rattle.typed.specs.Grammar.{Typed, constant, Lines}
use Rattle.typed.specs.Meaning.{Means}
use Rattle.typed.specs.Records.{universal, formula_for, sizes, rule_blocks}
use Rattle.typed.proofs.Sizes.{length_rules}
use Rattle.typed.proofs.Meaning.{meant}
use Rattle.typed.proofs.Expanded.{rules_expanded}
use Rattle.typed.proofs.Names.{Labelled, labels_in, label_pushed}
use Rattle.typed.proofs.Designed.{forms_are, rules_are}
use Rattle.typed.proofs.Accepted.{SidesPass, accepted}

-- the formulas of a text's rules are over labels
pub labelled_lines : {text : List ℕ} {fs : List Typed} → Lines text fs → (a : Actl) → In a (map formula_for fs) → Labelled a
labelled_lines {fs = fs} read a i =
    let w = of_map formula_for a fs i in
    subst Labelled w.2 (label_pushed true w.0 (labels_in read w.0 w.1))

module _ (ss : List ℕ) (n : ℕ) (long : length ss ≡ block_bytes * n) (fs : List Typed) (few_forms : sizes (map formula_for fs) ≤ most_formulas) (few_rules : length fs ≤ most_rules) where
  -- the formulas of the text
  abbrev given : List Actl
  given = map formula_for fs

  -- as many formulas as rules
  few : length given ≤ most_rules
  few = omega (arith, length-map fs formula_for)

  -- rule i is the formula of line i
  rule_is : (i : ℕ) → i < length fs
      → formula (design (ss ++ rule_blocks given)).forms (get_or (design (ss ++ rule_blocks given)).rules i 0) ≡ formula_for (get_or fs i (constant false))
  unfolding design
  rule_is i h =
      ap₂ (λ forms numbers. formula forms (get_or numbers i 0)) (forms_are ss n long given few_forms few) (rules_are ss n long given few_forms few)
      ∙ rules_expanded given i (omega (arith, length-map fs formula_for))
      ∙ get_or_map formula_for fs i (constant false) falsum h

  -- so it holds where that line is true
  pub ruled : ((f : Typed) → In f fs → universal f ≡ true) → (i : ℕ) → i < length fs → (M : System) (s : M.State)
      → Holds M (formula (design (ss ++ rule_blocks (map formula_for fs))).forms (get_or (design (ss ++ rule_blocks (map formula_for fs))).rules i 0)) s
      ↔ Means M (get_or fs i (constant false)) s
  ruled u i h M s =
      let f = get_or fs i (constant false) in
      subst⁻¹ (λ (a : Actl). Holds M a s ↔ Means M f s) (rule_is i h) (meant M f (u f (get_or_in fs i (constant false) h)) s)

  -- there is a rule for each line, and no other
  pub as_many : length (design (ss ++ rule_blocks (map formula_for fs))).rules ≡ length fs
  unfolding design
  as_many = ap length (rules_are ss n long given few_forms few) ∙ length_rules 0 given ∙ length-map fs formula_for

  -- and where the sides pass their tests the design is not refused
  pub ruled_accepted : {text : List ℕ} → Lines text fs → least_sides ≤ n → n ≤ side_count → SidesPass ss n → design_refusal (ss ++ rule_blocks (map formula_for fs)) ≡ 0
  ruled_accepted read enough at_most sides = accepted ss n long given few_forms few enough at_most sides (labelled_lines read)
