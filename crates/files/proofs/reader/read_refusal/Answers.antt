-- `files::read_refusal` meets its contract: the file's own refusals first, and then 12.
use mathlib.Core.Path.{◌≡◌, sym, ap, ◌∙◌}
use borrow.Author.Rules.{rules}
use Rattle.std.specs.Prelude.{Err}
use Rattle.refusals.specs.Answered.{refusal_of}
use Rattle.refusals.proofs.Answered.{number_some}
use mathlib.Core.Bool.{cond}
use Prim.Native.Nat.{◌*◌}
use native.Mathlib.Omega.{arith}
use borrow.Author.Tests.{le-leb, lt-leb}
use Rattle.layout.specs.Sizes.{record_bytes}
use Rattle.files.specs.Files.{file_count}
use Rattle.refusals.specs.Refusals.{first_failing}
use Rattle.files.proofs.FileSizes.{size_passes}
use Rattle.files.proofs.AcceptedFiles.{file_accepted, read_first, read_later}
use Rattle.files.proofs.reader.read_refusal.Goals as goal

pub returns-in_err-file_refusal : goal.returns-in_err-file_refusal
returns-in_err-file_refusal c =
    let a = c.args in
    let e = c.in_err-file_refusal.field-0.0 in
    let same : c.from_residual.result ≡ Err e = search rules in
    let number = c.in_err-file_refusal.ensures in
    ap refusal_of same ∙ number ∙ sym (read_first a.s.now a.room (λ z. let n = number_some e in omega (arith, n, number, z)))

pub record_count-requires : goal.record_count-requires
record_count-requires c = size_passes c.args.s.now (file_accepted c.args.s.now (sym c.in_ok-file_refusal.ensures)).size

pub overflow_mul-record_count : goal.overflow_mul-record_count
overflow_mul-record_count c = omega (arith, c.record_count.ensures, (file_accepted c.args.s.now (sym c.in_ok-file_refusal.ensures)).pass.few_records)

pub returns-then-room-record_count : goal.returns-then-room-record_count
unfolding first_failing
returns-then-room-record_count c =
    let a = c.args in
    sym (read_later a.s.now a.room (sym c.in_ok-file_refusal.ensures) ∙ ap (λ b. cond b 0 12) (lt-leb (record_bytes * file_count a.s.now) a.room (omega (arith, c.record_count.ensures))))

pub returns : goal.returns
unfolding first_failing
returns c =
    let a = c.args in
    sym (read_later a.s.now a.room (sym c.in_ok-file_refusal.ensures) ∙ ap (λ b. cond b 0 12) (le-leb (record_bytes * file_count a.s.now) a.room (omega (arith, c.record_count.ensures))))
