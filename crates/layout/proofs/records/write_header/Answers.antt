-- `records::write_header` meets its contract: the names, and the count behind them.
use Rattle.std.proofs.Common.{◌+◌, set, ap, ◌∙◌, arith}
use Rattle.layout.specs.Sizes.{side_count}
use Rattle.layout.specs.Records.{names_to}
use Rattle.layout.proofs.Put.{put_next}
use Rattle.layout.proofs.RecordBytes.{length_names}
use Rattle.layout.proofs.records.write_header.Goals as goal

pub returns : goal.returns
returns c =
    let a = c.args in
    ap (λ l. set l (a.at + side_count) a.r.count) c.write_names.ensures
    ∙ put_next (names_to a.r.names) a.s.now a.at side_count a.r.count (length_names a.r.names) (omega (arith, c.requires))
