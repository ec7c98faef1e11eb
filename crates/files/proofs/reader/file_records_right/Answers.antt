-- `files::file_records_right` meets its contract.
use Rattle.std.proofs.Common.{rules}
use mathlib.Core.Path.{◌≡◌, sym, ap, ◌∙◌}
use Prim.Native.Nat.{◌*◌}
use native.Mathlib.Omega.{arith}
use borrow.Author.Tests.{tests}
use Rattle.layout.specs.Sizes.{record_bytes}
use Rattle.layout.specs.Tables.{every}
use Rattle.layout.specs.Converters.{records}
use Rattle.files.specs.Files.{file_records}
use Rattle.refusals.specs.Refusals.{record_right, records_right}
use Rattle.files.proofs.EachNumber.{every_same, every_from_all}
use Rattle.files.proofs.FileRecords.{place, records_file, record_right_at}
use Rattle.files.proofs.reader.file_records_right.Goals as goal

pub returns : goal.returns
unfolding records_right
returns c =
    let bs = c.args.s.now in
    let f = file_records bs in
    let n : c.record_count-n.result ≡ records f = c.record_count-n.ensures ∙ sym (records_file bs) in
    every_from_all (λ j. record_right bs c.record_count-n.result (place j)) c.record_count-n.result _ _ _ c.all.ensures.ran (λ x b q k. search (rules, tests))
    ∙ ap (λ n. every n (λ j. record_right bs n (place j))) n
    ∙ every_same (λ j. record_right bs (records f) (place j)) (λ i. record_right f (records f) (record_bytes * i)) (records f)
    (λ j h. record_right_at bs c.requires.2 j (omega (arith, records_file bs)) (records f))
