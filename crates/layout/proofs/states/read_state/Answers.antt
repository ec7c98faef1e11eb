-- `states::read_state` meets its contract: its label, its count and its eight places.
use Rattle.std.proofs.Common.{rules}
use Rattle.layout.specs.States.{no_place, place_at, state_at}
use Rattle.layout.proofs.Arrays.{table_from_fn}
use Rattle.layout.proofs.states.read_state.Goals as goal

pub returns : goal.returns
unfolding state_at
returns c =
    let a = c.args in
    cc (table_from_fn _ (place_at a.s.now a.at) no_place c.from_fn.ensures.items (λ k p q h e. search rules))
