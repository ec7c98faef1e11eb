-- `records::write_places` meets its contract. The invariant: k places are put.
use Rattle.std.proofs.Common.{◌≡◌, ◌+◌, ◌*◌, get_or, sym, ap, ◌∙◌, arith}
use mathlib.Core.List.{flatten}
use Rattle.layout.specs.Sizes.{place_count, transition_bytes}
use Rattle.layout.specs.Tables.{table, table_from}
use Rattle.layout.specs.Bytes.{put}
use Rattle.layout.specs.Records.{no_transition, places_to}
use Rattle.layout.proofs.Pieces.{pieces_more}
use Rattle.layout.proofs.Put.{put_behind, put_nil}
use Rattle.layout.proofs.RecordBytes.{place_to, first_places_to, length_transition, length_first_places}
use Rattle.layout.proofs.records.write_places.Goals as goal

pub loop-k-init : goal.loop-k-init
unfolding flatten table table_from
loop-k-init c = sym (put_nil c.args.s.now c.args.at (omega arith))

pub loop-k-preserved : goal.loop-k-preserved
loop-k-preserved c =
    let a = c.args in
    let l = c.loop-k in
    c.write_transition.ensures
    ∙ ap (λ x. put x (a.at + transition_bytes * l.k) (place_to a.r l.k)) l.invariant
    ∙ put_behind (first_places_to a.r l.k) (place_to a.r l.k) a.s.now a.at (transition_bytes * l.k) (length_first_places a.r l.k)
    (omega (arith, c.requires, length_transition (get_or a.r.places l.k no_transition)))
    ∙ ap (λ x. put a.s.now a.at x) (sym (pieces_more (place_to a.r) l.k))

pub returns : goal.returns
unfolding places_to
returns c =
    let a = c.args in
    let e : c.loop-k.k ≡ place_count = omega arith in
    c.loop-k.invariant ∙ ap (λ k. put a.s.now a.at (first_places_to a.r k)) e
