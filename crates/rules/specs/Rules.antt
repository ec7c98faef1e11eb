-- Specification, "Rules as people type them": the call. Which refusal it answers, every byte of the blocks, and what each lent byte is after.
use Rattle.std.specs.Prelude.{◌≡◌, Bool, true, false, ◌&&◌, cond, List, [], ◌∷◌, map, ℕ, ◌*◌, eqb, leb, length, Result}
use Rattle.model.specs.Actl.{Actl}
use Rattle.model.specs.Judged.{all}
use Rattle.layout.specs.Sizes.{block_bytes, most_formulas, most_rules}
use Rattle.refusals.specs.Refusals.{Test, first_failing, left_by}
use Rattle.typed.specs.Grammar.{Typed, Lines}
use Rattle.typed.specs.Records.{universal, formula_for, sizes, rule_blocks}
use Rattle.refusals.specs.declared.refusal.Refusal.{Refusal}
use Rattle.refusals.specs.Answered.{Answer, done, refused, answered}

-- What a text reads as: rules, of which there is one list at most (`typed/proofs/Unique`), or nothing.
pub data Reading (text : List ℕ) : Type 0 where
  as_rules : (fs : List Typed) → Lines text fs → Reading text
  as_nothing : ((fs : List Typed) → Lines text fs → ⊥) → Reading text

abbrev pub is_read : {text : List ℕ} → Reading text → Bool
is_read (as_rules fs l) = true
is_read (as_nothing n) = false

abbrev pub rules_of : {text : List ℕ} → Reading text → List Typed
rules_of (as_rules fs l) = fs
rules_of (as_nothing n) = []

-- the formulas of typed rules
abbrev pub formulas_for : List Typed → List Actl
formulas_for fs = map formula_for fs

-- ---- refusals 19, 20, 21 and 12, where so many bytes are lent for the blocks
-- over 64 records or over 16 rules
abbrev pub few : List Typed → Bool
few fs = leb (sizes (formulas_for fs)) most_formulas && leb (length fs) most_rules

abbrev pub rules_tests : {text : List ℕ} → Reading text → ℕ → List Test
rules_tests r room =
    record { number = 19; passes = is_read r }
    ∷ record { number = 20; passes = all universal (rules_of r) }
    ∷ record { number = 21; passes = few (rules_of r) }
    ∷ record { number = 12; passes = leb (2 * block_bytes) room }
    ∷ []

unfoldable pub rules_refusal : {text : List ℕ} → Reading text → ℕ → ℕ
rules_refusal r room = first_failing (rules_tests r room)

-- ---- what the call promises: its answer a, and the lent blocks before and after
abbrev pub rules_answer : {text : List ℕ} → Reading text → ℕ → Answer ℕ
rules_answer r room = cond (eqb (rules_refusal r room) 0) (done (length (rules_of r))) (refused (rules_refusal r room))

pub record Ruling (text before : List ℕ) (a : Result ℕ Refusal) (after : List ℕ) : Type 0 where
  pub reading : Reading text
  pub answers : answered a ≡ rules_answer reading (length before)
  pub leaves : after ≡ left_by (rules_refusal reading (length before)) before (rule_blocks (formulas_for (rules_of reading)))
