-- `records::write_transition` meets its contract: the events, a zero, and the next record.
use Rattle.std.proofs.Common.{◌+◌, [], ◌∷◌, ◌++◌, set, ap, ◌∙◌, append_assoc, arith, length-append}
use Rattle.layout.specs.Sizes.{side_count, next_at}
use Rattle.layout.specs.Bytes.{put, word_bytes}
use Rattle.layout.specs.Records.{events_to}
use Rattle.layout.proofs.Put.{put_next, put_behind}
use Rattle.layout.proofs.RecordBytes.{length_events}
use Rattle.layout.proofs.records.write_transition.Goals as goal

pub returns : goal.returns
returns c =
    let a = c.args in
    let es = events_to a.t.events in
    c.write_word.ensures
    ∙ ap (λ l. put (set l (a.at + side_count) 0) (a.at + next_at) (word_bytes a.t.next)) c.write_events.ensures
    ∙ ap (λ l. put l (a.at + next_at) (word_bytes a.t.next)) (put_next es a.s.now a.at side_count 0 (length_events a.t.events) (omega (arith, c.requires)))
    ∙ put_behind (es ++ (0 ∷ [])) (word_bytes a.t.next) a.s.now a.at next_at (length-append es (0 ∷ []) ∙ ap (λ n. n + 1) (length_events a.t.events)) (omega (arith, c.requires))
    ∙ ap (put a.s.now a.at) (append_assoc es (0 ∷ []) (word_bytes a.t.next))
