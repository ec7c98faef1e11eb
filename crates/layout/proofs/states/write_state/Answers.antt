-- `states::write_state` meets its contract: the label, the count and a zero, and behind them the places.
use Rattle.std.proofs.Common.{◌+◌, [], ◌∷◌, ◌++◌, set, sym, refl, ap, ◌∙◌, arith}
use Rattle.layout.specs.Sizes.{count_at, gap_at, places_at}
use Rattle.layout.specs.Bytes.{put, word_bytes}
use Rattle.layout.specs.States.{state_of, moves_to, state_to}
use Rattle.layout.proofs.Put.{put_next, put_behind}
use Rattle.layout.proofs.RecordMoves.{moves_length}
use Rattle.layout.proofs.StateBytes.{length_moves}
use Rattle.layout.proofs.states.write_state.Goals as goal

pub returns : goal.returns
unfolding state_to state_of
returns c =
    let a = c.args in
    let q = state_of a.q in
    let w = word_bytes a.q.label in
    c.write_places.ensures
    ∙ ap (λ l. put (set (set l (a.at + count_at) a.q.count) (a.at + gap_at) 0) (a.at + places_at) (moves_to q)) c.write_word.ensures
    ∙ ap (λ l. put (set l (a.at + gap_at) 0) (a.at + places_at) (moves_to q)) (put_next w a.s.now a.at count_at a.q.count refl (omega (arith, c.requires)))
    ∙ ap (λ l. put l (a.at + places_at) (moves_to q)) (put_next (w ++ (a.q.count ∷ [])) a.s.now a.at gap_at 0 refl (omega (arith, c.requires)))
    ∙ put_behind (w ++ (a.q.count ∷ 0 ∷ [])) (moves_to q) a.s.now a.at places_at refl (omega (arith, c.requires, length_moves q))
    ∙ ap (λ n. put a.s.now a.at (w ++ (n ∷ 0 ∷ []) ++ moves_to q)) (sym (moves_length a.q))
