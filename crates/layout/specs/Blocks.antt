-- Specification, "Bytes": a block, 512 bytes: kind, record count, number of its first record (16 bits), records from byte 4, and in bytes 510 and 511 the
-- check.
use Rattle.std.specs.Prelude.{ℕ, ◌+◌, ◌-◌, ◌*◌, List, [], ◌∷◌, ◌++◌, length, take, replicate}
use Rattle.layout.specs.Sizes.{most_states, most_formulas, most_rules, count_in_block, records_in_block, check_in_block, block_bytes}
use Rattle.layout.specs.Bytes.{byte, part, check, word_bytes}
use Rattle.layout.specs.Unused.{Layout, state_record, formula_record, rule_record, size}

-- what is asked of one block of an input: where it stands, its kind and first record, what it holds, and the limits of its record count
pub record Block : Type 0 where
  pub at : ℕ
  pub kind : ℕ
  pub first : ℕ
  pub holds : Layout
  pub least : ℕ
  pub most : ℕ

-- ---- the blocks of a design: those of two sides or of three, and behind them the formulas and the rules
abbrev pub kernel : Block
kernel = record { at = 0; kind = 1; first = 0; holds = state_record; least = 1; most = most_states }

abbrev pub host : Block
host = record { at = block_bytes; kind = 2; first = 0; holds = state_record; least = 1; most = most_states }

abbrev pub service : Block
service = record { at = 2 * block_bytes; kind = 6; first = 0; holds = state_record; least = 1; most = most_states }

abbrev pub side_blocks : List Block
side_blocks = kernel ∷ host ∷ service ∷ []

-- behind the blocks of n sides
abbrev pub formulas : ℕ → Block
formulas n = record { at = block_bytes * n; kind = 3; first = 0; holds = formula_record; least = 0; most = most_formulas }

abbrev pub rules : ℕ → Block
rules n = record { at = block_bytes * (n + 1); kind = 4; first = 0; holds = rule_record; least = 0; most = most_rules }

-- the blocks of a design in which n sides have one
abbrev pub design_blocks : ℕ → List Block
design_blocks n = take n side_blocks ++ (formulas n ∷ rules n ∷ [])

-- ---- in a block
abbrev pub record_count : List ℕ → Block → ℕ
record_count bs b = byte bs (b.at + count_in_block)

-- where record k stands
abbrev pub record_place : Block → ℕ → ℕ
record_place b k = b.at + records_in_block + size b.holds * k

-- the bytes behind its records
abbrev pub behind : List ℕ → Block → List ℕ
behind bs b = part bs (record_place b (record_count bs b)) (check_in_block - records_in_block - size b.holds * record_count bs b)

-- ---- a block of any kind, made: its header and records, zeros, and the check of these 510 bytes
unfoldable pub unsealed : ℕ → ℕ → ℕ → List ℕ → List ℕ
unsealed kind count first rs = (kind ∷ count ∷ word_bytes first) ++ (rs ++ replicate (check_in_block - records_in_block - length rs) 0)

unfoldable pub sealed : ℕ → ℕ → ℕ → List ℕ → List ℕ
sealed kind count first rs = unsealed kind count first rs ++ word_bytes (check (unsealed kind count first rs))
