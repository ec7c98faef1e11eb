-- Specification, "A quick yes or no": rows of the rule to blame, in one table, and what each says of the definitions. `proofs/BlameRows` `blame_rows_true` shows that every row is true.
use Rattle.std.specs.Prelude.{◌≡◌, ℕ}
use mathlib.Core.List.{List, [], ◌∷◌}
use Rattle.model.specs.Converters.{Converter, Matched}
use Rattle.model.specs.Designs.{Design, WellFormed}
use Rattle.model.specs.Blame.{Blamed, first_fault}
use Rattle.model.specs.RowData.{H_printed, F, fork_either, fork_two, fork_first, fork_open}

-- a design, a matched converter, and the place of the first rule that the converter fails
pub record BlameRow : Type 0 where
  pub design : Design
  pub converter : Converter
  pub place : ℕ

abbrev pub Blames : BlameRow → Type 0
Blames r =
    WellFormed r.design × Matched r.design.sides r.converter × Blamed r.design r.converter r.place
    × (first_fault r.design r.converter ≡ r.place)

abbrev pub blame_rows : List BlameRow
blame_rows =
    -- F against the paper's four rules as printed: the fourth is the first that fails
    record { design = H_printed; converter = F; place = 3 }
    -- both inputs of the fork: the only one
    ∷ record { design = fork_either; converter = fork_open; place = 0 }
    -- AX 16 and AX 17 under the first input: the second
    ∷ record { design = fork_two; converter = fork_first; place = 1 } ∷ []
