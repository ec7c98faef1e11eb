-- `designs::side_state` meets its contract: a side that has no block has a state that ticks.
use Rattle.std.proofs.Common.{sym, ap, ◌∙◌, arith}
use Rattle.layout.specs.Tables.{table, table_from}
use Rattle.layout.specs.States.{state_at}
use Rattle.layout.proofs.DesignBytes.{state_place, held_state, at_rest}
use Rattle.layout.proofs.designs.side_state.Goals as goal

pub returns-then-i-held : goal.returns-then-i-held
returns-then-i-held c =
    let s = c.args.s.now in
    let i = c.args.i in
    let k = c.args.k in
    c.read_state.ensures
    ∙ ap (state_at s) (sym (state_place i k c.requires.1))
    ∙ sym (held_state s i k (omega (arith, c.held.ensures)))

pub returns-else-i-held : goal.returns-else-i-held
unfolding table table_from
returns-else-i-held c =
    sym (at_rest c.args.s.now c.args.i c.args.k (omega (arith, c.held.ensures)))
