-- What a design has that passes some of the tests, for the contracts of functions that read it. Nobody has to believe these.
use Rattle.std.specs.Prelude.{◌≡◌, List, ℕ, ◌≤◌, ◌<◌, length, get_or}
use Rattle.model.specs.Positions.{positions}
use Rattle.layout.specs.Sizes.{side_count, most_states, most_formulas, most_rules, most_positions}
use Rattle.layout.specs.Blocks.{Block, kernel, design_blocks}
use Rattle.layout.specs.Designs.{Whole, design, side}
use Rattle.refusals.specs.declared.design_tests.Asked.{Asked}
use Rattle.refusals.specs.Refusals.{design_refusal}

-- block i of a design in which n sides have one
abbrev pub block : ℕ → ℕ → Block
block n i = get_or (design_blocks n) i kernel

-- what is asked of it, by value
abbrev pub asked_of : Block → Asked
asked_of b = record { kind = b.kind; least = b.least; most = b.most }

-- its record counts are within their limits: what passes 1 and 4 leaves
pub record Counted (bs : List ℕ) : Type 0 where
  pub whole : Whole bs
  pub some_state : (i : ℕ) → i < side_count → 1 ≤ length (side (design bs) i)
  pub few_states : (i : ℕ) → i < side_count → length (side (design bs) i) ≤ most_states
  pub few_formulas : length (design bs).forms ≤ most_formulas
  pub few_rules : length (design bs).rules ≤ most_rules

-- a design that the search takes: it passes 1 to 9
pub record Accepted (bs : List ℕ) : Type 0 where
  pub refusal : design_refusal bs ≡ 0
  pub few : positions (design bs) ≤ most_positions
