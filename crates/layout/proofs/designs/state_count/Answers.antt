-- `designs::state_count` meets its contract: a side that has no block has one state.
use Rattle.std.proofs.Common.{◌+◌, length, sym, ap, ◌∙◌, arith}
use Rattle.layout.specs.Sizes.{count_in_block}
use Rattle.layout.specs.Bytes.{byte}
use Rattle.layout.proofs.DesignBytes.{side_at, resting_side, side_length}
use Rattle.layout.proofs.designs.state_count.Goals as goal

pub returns-then-i-held : goal.returns-then-i-held
returns-then-i-held c =
    let s = c.args.s.now in
    let i = c.args.i in
    c.read_byte.ensures
    ∙ ap (λ at. byte s (at + count_in_block)) (sym (side_at i c.requires.1))
    ∙ sym (side_length s i c.requires.1 (omega (arith, c.held.ensures)))

pub returns-else-i-held : goal.returns-else-i-held
returns-else-i-held c =
    sym (ap length (resting_side c.args.s.now c.args.i c.requires.1 (omega (arith, c.held.ensures))))
