-- `files::read` meets its contract: a refusal, or the records.
use mathlib.Core.Path.{sym}
use lib.ListN.{length}
use Rattle.files.proofs.FileSizes.{size_passes}
use Rattle.files.proofs.FileTests.{count_fits}
use Rattle.files.proofs.AcceptedFiles.{read_accepted}
use Rattle.files.proofs.reader.read.Goals as goal

pub read_records-requires : goal.read_records-requires
read_records-requires c =
    let f = c.args.blocks.now in
    let t = read_accepted c.args.blocks.now (length c.args.converter.now) (sym c.in_ok-read_refusal.ensures) in
    (size_passes f t.0.size, t.0.pass.few_records, count_fits f t.0.size t.0.pass, t.1)

pub record_count-requires : goal.record_count-requires
record_count-requires c =
    size_passes c.args.blocks.now (read_accepted c.args.blocks.now (length c.args.converter.now) (sym c.in_ok-read_refusal.ensures)).0.size
