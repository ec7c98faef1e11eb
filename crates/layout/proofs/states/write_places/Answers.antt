-- `states::write_places` meets its contract. The invariant: k places are put.
use Rattle.std.proofs.Common.{◌≡◌, ◌+◌, ◌*◌, sym, ap, ◌∙◌, ap₂, arith}
use mathlib.Core.List.{flatten}
use Rattle.layout.specs.Sizes.{place_count, move_bytes}
use Rattle.layout.specs.Tables.{table, table_from}
use Rattle.layout.specs.Bytes.{put}
use Rattle.layout.specs.States.{state_of, move_to, moves_to}
use Rattle.layout.proofs.Pieces.{pieces_more}
use Rattle.layout.proofs.Put.{put_behind, put_nil}
use Rattle.layout.proofs.StateBytes.{nth_move_to, first_moves_to, length_first_moves}
use Rattle.layout.proofs.states.write_places.Goals as goal

pub loop-k-init : goal.loop-k-init
unfolding flatten table table_from
loop-k-init c = sym (put_nil c.args.s.now c.args.at (omega arith))

pub loop-k-preserved : goal.loop-k-preserved
loop-k-preserved c =
    let a = c.args in
    let l = c.loop-k in
    let q = state_of a.q in
    c.write_place.ensures
    ∙ ap₂ (λ x m. put x (a.at + move_bytes * l.k) (move_to m)) l.invariant c.used_place.ensures
    ∙ put_behind (first_moves_to q l.k) (nth_move_to q l.k) a.s.now a.at (move_bytes * l.k) (length_first_moves q l.k) (omega (arith, c.requires))
    ∙ ap (λ x. put a.s.now a.at x) (sym (pieces_more (nth_move_to q) l.k))

pub returns : goal.returns
unfolding moves_to
returns c =
    let a = c.args in
    let e : c.loop-k.k ≡ place_count = omega arith in
    c.loop-k.invariant ∙ ap (λ k. put a.s.now a.at (first_moves_to (state_of a.q) k)) e
