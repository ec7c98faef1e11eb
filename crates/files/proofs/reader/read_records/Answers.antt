-- `files::read_records` meets its contract. The invariant: the first j records are put.
use mathlib.Core.Path.{sym, ap, ap₂, ◌∙◌}
use Prim.Native.Nat.{◌*◌}
use native.Mathlib.Omega.{arith}
use lib.Seq.{take_all}
use Rattle.layout.specs.Sizes.{record_bytes}
use Rattle.layout.specs.Bytes.{part, put}
use Rattle.files.specs.Files.{file_records}
use Rattle.layout.proofs.Put.{put_nil}
use Rattle.files.proofs.FileRecords.{length_file_records, put_next_record}
use Rattle.files.proofs.reader.read_records.Goals as goal

pub loop-j-init : goal.loop-j-init
loop-j-init c = sym (put_nil c.args.converter.now 0 (omega arith))

pub loop-j-preserved : goal.loop-j-preserved
loop-j-preserved c =
    let e = c.record_count-j-end.ensures in
    c.copy.ensures
    ∙ ap₂ (λ l i. put l (record_bytes * c.loop-j.j) (part c.args.s.now i record_bytes)) c.loop-j.invariant c.record_place.ensures
    ∙ put_next_record c.args.s.now c.requires.2 c.loop-j.j (omega arith) c.args.converter.now (omega (arith, c.requires.3))

pub returns : goal.returns
returns c =
    let e = c.record_count-j-end.ensures in
    c.loop-j.invariant ∙ ap (put c.args.converter.now 0) (take_all (record_bytes * c.loop-j.j) (file_records c.args.s.now) (omega (arith, length_file_records c.args.s.now)))
