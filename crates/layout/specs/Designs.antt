-- Specification, "Bytes": from the bytes of a design to the model's `Design`. A design has a block for each of three sides, or for two: then the third side is one
-- ticking state without labels. What is refused stands for some design too.
use Rattle.std.specs.Prelude.{◌≡◌, ℕ, ◌+◌, ◌-◌, ◌*◌, ◌/◌, ◌≤◌, cond, List, [], length, nat_lt, slice_index_or}
use Rattle.model.specs.Sides.{Side}
use Rattle.model.specs.Formulas.{Form}
use Rattle.model.specs.Designs.{Design}
use Rattle.model.specs.Resting.{resting}
use Rattle.layout.specs.declared.formulas.FormulaRecord.{FormulaRecord}
use Rattle.layout.specs.declared.states.StateRecord.{StateRecord}
use Rattle.layout.specs.Sizes.{side_count, place_count, block_bytes, least_sides, other_blocks}
use Rattle.layout.specs.Tables.{table}
use Rattle.layout.specs.Bytes.{byte}
use Rattle.layout.specs.States.{no_place, state_at, state_of}
use Rattle.layout.specs.Formulas.{form_at, formula_at}
use Rattle.layout.specs.Blocks.{Block, kernel, formulas, rules, side_blocks, record_count, record_place}

-- how many sides have a block
abbrev pub held : List ℕ → ℕ
held bs = length bs / block_bytes - other_blocks

-- the bytes are as many as such blocks have: four blocks, or five
pub record Whole (bs : List ℕ) : Type 0 where
  pub enough : least_sides ≤ held bs
  pub at_most : held bs ≤ side_count
  pub long : length bs ≡ block_bytes * (held bs + other_blocks)

unfoldable pub side_in : List ℕ → Block → Side
side_in bs b = table (record_count bs b) (λ k. state_of (state_at bs (record_place b k)))

abbrev pub side_block : ℕ → Block
side_block i = slice_index_or side_blocks i kernel

-- a side that has no block rests
unfoldable pub side_of : List ℕ → ℕ → Side
side_of bs i = cond (nat_lt i (held bs)) (side_in bs (side_block i)) resting

unfoldable pub forms_in : List ℕ → List Form
forms_in bs = table (record_count bs (formulas (held bs))) (λ k. form_at bs (record_place (formulas (held bs)) k))

unfoldable pub rules_in : List ℕ → List ℕ
rules_in bs = table (record_count bs (rules (held bs))) (λ k. byte bs (record_place (rules (held bs)) k))

unfoldable pub design : List ℕ → Design
design bs = record { sides = table side_count (side_of bs); forms = forms_in bs; rules = rules_in bs }

-- ---- by number
-- side i of a design
abbrev pub side : Design → ℕ → Side
side D i = slice_index_or D.sides i []

-- the one state of a side that rests, as a record
abbrev pub resting_state : StateRecord
resting_state = record { label = 0; count = 1; places = table place_count (λ k. no_place) }

-- state k of side i, as a record
unfoldable pub stored_state : List ℕ → ℕ → ℕ → StateRecord
stored_state bs i k = cond (nat_lt i (held bs)) (state_at bs (record_place (side_block i) k)) resting_state

-- formula k, as a record
unfoldable pub stored_formula : List ℕ → ℕ → FormulaRecord
stored_formula bs k = formula_at bs (record_place (formulas (held bs)) k)
