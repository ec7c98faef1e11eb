-- Nobody has to believe this: the lines of a text as they are read.
use Rattle.std.specs.Prelude.{◌≡◌, ◌&&◌, Option, Some, None, List, [], ◌∷◌, ◌++◌, ℕ, ◌+◌, ◌*◌, ◌≤◌, ◌<◌, leb, length, take}
use Rattle.layout.specs.Sizes.{block_bytes, most_formulas, most_rules}
use Rattle.refusals.specs.Refusals.{Test, first_failing}
use Rattle.typed.specs.Grammar.{Typed, Lines}
use Rattle.typed.specs.Records.{sizes, all_records, rules_from, forms_to}
use Rattle.rules.specs.declared.parts.Grade.TheVariants.{Refused}
use Rattle.rules.specs.declared.lines.Text.{Text}
use Rattle.rules.specs.Making.{front}
use Rattle.rules.specs.Grades.{grades, allowed}
use Rattle.rules.specs.Rules.{formulas_for}

-- rule number n is r, where there is room for it
abbrev pub Ruled : List ℕ → ℕ → ℕ → List ℕ → Type 0
Ruled us n r us' = n < most_rules → take (n + 1) us' ≡ take n us ++ (r ∷ [])

-- A text was read as rules: how many, and how many records they have; their grade, records and numbers.
pub record Holds (fs : List Typed) (t : Text) (rs us : List ℕ) : Type 0 where
  pub ruled : t.rules ≡ length fs
  pub counted : t.count ≡ sizes (formulas_for fs)
  pub graded : t.grade ≡ grades fs
  pub made : (t.grade ≡ Refused → ⊥) → t.count ≤ most_formulas → front rs t.count ≡ forms_to (all_records 0 (formulas_for fs))
  pub numbered : t.count ≤ most_formulas → t.rules ≤ most_rules → take t.rules us ≡ rules_from 0 (formulas_for fs)

pub record ReadAs (text : List ℕ) (t : Text) (rs us : List ℕ) : Type 0 where
  pub rules : List Typed
  pub lines : Lines text rules
  pub holds : Holds rules t rs us

abbrev pub Lining : List ℕ → Option Text → List ℕ → List ℕ → Type 0
Lining text (Some t) rs us = ReadAs text t rs us
Lining text None rs us = (fs : List Typed) → Lines text fs → ⊥

-- 20, 21 and 12 of what was read
abbrev pub text_tests : Text → ℕ → List Test
text_tests t room =
    record { number = 20; passes = allowed t.grade }
    ∷ record { number = 21; passes = leb t.count most_formulas && leb t.rules most_rules }
    ∷ record { number = 12; passes = leb (2 * block_bytes) room }
    ∷ []

unfoldable pub text_refusal : Text → ℕ → ℕ
text_refusal t room = first_failing (text_tests t room)
