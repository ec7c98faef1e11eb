-- `records::write_record` meets its contract: the header, and behind it the places.
use Rattle.std.proofs.Common.{◌+◌, ap, ◌∙◌, arith}
use Rattle.layout.specs.Sizes.{places_at}
use Rattle.layout.specs.Bytes.{put}
use Rattle.layout.specs.Records.{header_to, places_to}
use Rattle.layout.proofs.Put.{put_behind}
use Rattle.layout.proofs.RecordBytes.{length_header, length_places}
use Rattle.layout.proofs.records.write_record.Goals as goal

pub returns : goal.returns
returns c =
    let a = c.args in
    c.write_places.ensures
    ∙ ap (λ l. put l (a.at + places_at) (places_to a.r)) c.write_header.ensures
    ∙ put_behind (header_to a.r) (places_to a.r) a.s.now a.at places_at (length_header a.r) (omega (arith, c.requires, length_places a.r))
