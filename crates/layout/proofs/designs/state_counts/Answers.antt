-- `designs::state_counts` meets its contract.
use Rattle.std.proofs.Common.{[], length, ◌∙◌, rules}
use Rattle.model.specs.Sides.{State}
use Rattle.layout.specs.Sizes.{side_count}
use Rattle.layout.specs.Designs.{design, side}
use Rattle.layout.proofs.Arrays.{table_from_fn}
use Rattle.layout.proofs.Tables.{table_map}
use Rattle.layout.proofs.DesignBytes.{sides_length}
use Rattle.layout.proofs.designs.state_counts.Goals as goal

pub returns : goal.returns
returns c =
    let D = design c.args.s.now in
    table_from_fn _ (λ i. length (side D i)) 0 c.from_fn.ensures.items (λ i n q h e. search rules)
    ∙ table_map (length {A = State}) [] D.sides side_count (sides_length c.args.s.now)
