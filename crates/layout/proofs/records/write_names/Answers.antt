-- `records::write_names` meets its contract.
use Rattle.std.proofs.Common.{◌∙◌, rules}
use Rattle.layout.specs.Sizes.{side_count}
use Rattle.layout.specs.Records.{names_to}
use Rattle.layout.proofs.Tables.{as_table}
use Rattle.layout.proofs.Put.{put_stored}
use Rattle.layout.proofs.RecordBytes.{length_names}
use Rattle.layout.proofs.records.write_names.Goals as goal

pub returns : goal.returns
returns c =
    let a = c.args in
    put_stored a.s.now a.at side_count c.copy_from_slice.new.self (names_to a.names) (c.copy_from_slice.ensures.after ∙ as_table 0 side_count a.names (search rules)) (length_names a.names)
