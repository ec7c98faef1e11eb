-- Specification, "When a call declines": the refusals as tests of the whole input, and for each caller the list of its numbers in the specification's order.
use Rattle.std.specs.Prelude.{Bool, ◌&&◌, ◌||◌, cond, List, [], ◌∷◌, ℕ, ◌+◌, ◌*◌, ◌%◌, eqb, leb, length}
use Rattle.model.specs.Positions.{positions}
use Rattle.model.specs.Judged.{all}
use Rattle.layout.specs.Sizes.{most_positions, side_count, least_sides, other_blocks, record_bytes, block_bytes, first_in_block, check_in_block, most_records}
use Rattle.layout.specs.Tables.{every}
use Rattle.layout.specs.Bytes.{byte, word, part, check, all_zero, put}
use Rattle.layout.specs.Formulas.{known_kind}
use Rattle.layout.specs.Records.{record_at, node_of}
use Rattle.layout.specs.Unused.{Layout, state_record, formula_record, rule_record, converter_record, unused}
use Rattle.layout.specs.Blocks.{Block, formulas, design_blocks, record_count, record_place, behind}
use Rattle.layout.specs.Designs.{held, design}
use Rattle.layout.specs.Converters.{records}
use Rattle.layout.specs.Tests.{side_right, kinds_right, forms_right, rules_right, node_right}

-- a number and whether the input passes its test
pub record Test : Type 0 where
  pub number : ℕ
  pub passes : Bool

-- the number of the first test that fails, 0 where all pass
unfoldable pub first_failing : List Test → ℕ
first_failing [] = 0
first_failing (t ∷ ts) = cond t.passes (first_failing ts) t.number

-- ---- 2, 3, 4, 8: of one block of an input
unfoldable pub check_right : List ℕ → Block → Bool
check_right bs b = eqb (word bs (b.at + check_in_block)) (check (part bs b.at check_in_block))

unfoldable pub header_right : List ℕ → Block → Bool
header_right bs b = eqb (byte bs b.at) b.kind && eqb (word bs (b.at + first_in_block)) b.first

unfoldable pub count_right : List ℕ → Block → Bool
count_right bs b = leb b.least (record_count bs b) && leb (record_count bs b) b.most

-- the unused bytes of a record that 8 speaks of: those of a converter record are 11's
abbrev pub unused_eight : Layout → List ℕ → ℕ → List ℕ
unused_eight state_record bs at = unused state_record bs at
unused_eight formula_record bs at = unused formula_record bs at
unused_eight rule_record bs at = unused rule_record bs at
unused_eight converter_record bs at = []

unfoldable pub unused_right : List ℕ → Block → Bool
unused_right bs b = every (record_count bs b) (λ k. all_zero (unused_eight b.holds bs (record_place b k))) && all_zero (behind bs b)

-- the four, in order
abbrev pub block_tests : List ℕ → Block → List Test
block_tests bs b =
    record { number = 2; passes = check_right bs b }
    ∷ record { number = 3; passes = header_right bs b }
    ∷ record { number = 4; passes = count_right bs b }
    ∷ record { number = 8; passes = unused_right bs b }
    ∷ []

-- ---- 1 to 8: a design
-- the bytes of a design in which n sides have a block
abbrev pub design_bytes : ℕ → ℕ
design_bytes n = block_bytes * (n + other_blocks)

-- four blocks, or five: 2,048 bytes or 2,560
unfoldable pub length_right : List ℕ → Bool
length_right bs = eqb (length bs) (design_bytes least_sides) || eqb (length bs) (design_bytes side_count)

unfoldable pub kinds_known : List ℕ → Bool
kinds_known bs = every (record_count bs (formulas (held bs))) (λ k. known_kind (byte bs (record_place (formulas (held bs)) k)))

unfoldable pub formulas_right : List ℕ → Bool
formulas_right bs = kinds_known bs && forms_right (design bs).forms && rules_right (length (design bs).forms) (design bs).rules

abbrev pub design_tests : List ℕ → List Test
design_tests bs =
    record { number = 1; passes = length_right bs }
    ∷ record { number = 2; passes = all (check_right bs) (design_blocks (held bs)) }
    ∷ record { number = 3; passes = all (header_right bs) (design_blocks (held bs)) }
    ∷ record { number = 4; passes = all (count_right bs) (design_blocks (held bs)) }
    ∷ record { number = 5; passes = all side_right (design bs).sides }
    ∷ record { number = 6; passes = all kinds_right (design bs).sides }
    ∷ record { number = 7; passes = formulas_right bs }
    ∷ record { number = 8; passes = all (unused_right bs) (design_blocks (held bs)) }
    ∷ []

unfoldable pub design_refusal : List ℕ → ℕ
design_refusal bs = first_failing (design_tests bs)

-- ---- 9: the search alone
abbrev pub positions_test : List ℕ → Test
positions_test bs = record { number = 9; passes = leb (positions (design bs)) most_positions }

-- ---- 10 and 11: a converter in memory
unfoldable pub size_right : List ℕ → Bool
size_right cs = leb 1 (length cs) && eqb (length cs % record_bytes) 0 && leb (records cs) most_records

-- the record at `at`, in a converter that has n
unfoldable pub record_right : List ℕ → ℕ → ℕ → Bool
record_right cs n at = node_right n (node_of (record_at cs at)) && all_zero (unused converter_record cs at)

unfoldable pub records_right : List ℕ → Bool
records_right cs = every (records cs) (λ k. record_right cs (records cs) (record_bytes * k))

abbrev pub converter_tests : List ℕ → List Test
converter_tests cs = record { number = 10; passes = size_right cs } ∷ record { number = 11; passes = records_right cs } ∷ []

unfoldable pub converter_refusal : List ℕ → ℕ
converter_refusal cs = first_failing (converter_tests cs)

-- ---- what a call leaves of lent bytes: vs stands at the front, and those behind are as they were; or, after a refusal, all are
abbrev pub left_by : ℕ → List ℕ → List ℕ → List ℕ
left_by refusal bs vs = cond (eqb refusal 0) (put bs 0 vs) bs
