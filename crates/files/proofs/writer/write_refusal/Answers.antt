-- `files::write_refusal` meets its contract: 10 and 11 first, and then 12.
use mathlib.Core.Path.{◌≡◌, refl, sym, ap, ◌∙◌}
use borrow.Author.Rules.{rules}
use Rattle.std.specs.Prelude.{Err}
use Rattle.refusals.specs.Answered.{refusal_of}
use Rattle.refusals.proofs.Answered.{number_some}
use mathlib.Core.Bool.{cond}
use mathlib.Core.List.{List, [], ◌∷◌}
use Prim.Native.Nat.{ℕ, ◌*◌}
use native.Mathlib.Omega.{arith}
use borrow.Author.Tests.{le-leb, lt-leb}
use Rattle.model.specs.Judged.{all}
use Rattle.layout.specs.Converters.{records}
use Rattle.files.specs.Files.{blocks_for}
use Rattle.refusals.specs.Refusals.{first_failing, converter_tests, converter_refusal}
use Rattle.files.specs.FileRefusals.{room_for_blocks, write_refusal}
use Rattle.refusals.proofs.Passing.{refused_first, refused_later}
use Rattle.refusals.proofs.Accepted.{accepted}
use Rattle.files.proofs.writer.write_refusal.Goals as goal

-- where 10 and 11 refuse nothing, 12 answers
last : (cs : List ℕ) (room : ℕ) → converter_refusal cs ≡ 0 → write_refusal cs room ≡ first_failing (room_for_blocks cs room ∷ [])
unfolding write_refusal converter_refusal all
last cs room none = refused_later (converter_tests cs) _ refl none

pub returns-in_err-converter_refusal : goal.returns-in_err-converter_refusal
unfolding write_refusal converter_refusal
returns-in_err-converter_refusal c =
    let a = c.args in
    let e = c.in_err-converter_refusal.field-0.0 in
    let same : c.from_residual.result ≡ Err e = search rules in
    let number = c.in_err-converter_refusal.ensures in
    ap refusal_of same ∙ number
    ∙ sym (refused_first (converter_tests a.converter.now) (room_for_blocks a.converter.now a.room ∷ []) (λ z. let n = number_some e in let m = number ∙ z in omega (arith, n, m)))

pub blocks_for-requires : goal.blocks_for-requires
blocks_for-requires c =
    omega (arith, c.count.ensures, (accepted c.args.converter.now (sym c.in_ok-converter_refusal.ensures)).at_most)

pub returns-then-room-blocks_for : goal.returns-then-room-blocks_for
unfolding first_failing
returns-then-room-blocks_for c =
    let a = c.args in
    let l = ap blocks_for c.count.ensures in
    sym (last a.converter.now a.room (sym c.in_ok-converter_refusal.ensures) ∙ ap (λ t. cond t 0 12) (lt-leb (512 * blocks_for (records a.converter.now)) a.room (omega (arith, c.blocks_for.ensures))))

pub returns : goal.returns
unfolding first_failing
returns c =
    let a = c.args in
    let l = ap blocks_for c.count.ensures in
    sym (last a.converter.now a.room (sym c.in_ok-converter_refusal.ensures) ∙ ap (λ t. cond t 0 12) (le-leb (512 * blocks_for (records a.converter.now)) a.room (omega (arith, c.blocks_for.ensures))))
