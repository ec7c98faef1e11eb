-- `records::write_events` meets its contract.
use Rattle.std.proofs.Common.{◌∙◌, rules}
use Rattle.model.specs.Events.{tick}
use Rattle.layout.specs.Sizes.{side_count}
use Rattle.layout.specs.Bytes.{event_byte}
use Rattle.layout.specs.Records.{events_to}
use Rattle.layout.proofs.Arrays.{table_from_map}
use Rattle.layout.proofs.Put.{put_stored}
use Rattle.layout.proofs.RecordBytes.{length_events}
use Rattle.layout.proofs.records.write_events.Goals as goal

pub returns : goal.returns
returns c =
    let a = c.args in
    put_stored a.s.now a.at side_count c.copy_from_slice.new.self (events_to a.written)
    (c.copy_from_slice.ensures.after ∙ table_from_map _ event_byte tick 0 c.map.ensures.items (λ j y q h k. search rules))
    (length_events a.written)
