-- `files::file_refusal` meets its contract. The invariant: `first` is the first refusal by the record count and the first k blocks.
use mathlib.Core.Path.{◌≡◌, refl, sym, ap, ap₂, ◌∙◌}
use borrow.Author.Rules.{rules}
use Rattle.std.specs.Prelude.{Err}
use Rattle.refusals.specs.Answered.{refusal_of}
use Rattle.refusals.proofs.Answered.{number_some}
use mathlib.Core.Bool.{true, cond}
use mathlib.Core.List.{List, [], ◌∷◌, ◌++◌}
use Prim.Native.Nat.{ℕ}
use native.Mathlib.Omega.{arith}
use Rattle.model.specs.Judged.{all}
use Rattle.files.specs.Files.{blocks, file_block, file_records}
use Rattle.refusals.specs.Refusals.{Test, first_failing, block_tests, records_right}
use Rattle.files.specs.FileRefusals.{earlier, file_size_right, file_tests}
use Rattle.refusals.proofs.Passing.{passes_on, refused_first, refused_later}
use Rattle.files.proofs.FileSizes.{sized}
use Rattle.files.proofs.FileTests.{so_far, start, next, whole, end, blocks_pass, count_fits}
use Rattle.files.proofs.reader.file_refusal.Goals as goal
use Rattle.files.proofs.reader.file_refusal.Goals.{After-loop-k, Else-not-file_size_right}

-- the size is right
size_passed : (c : Else-not-file_size_right) → file_size_right c.args.s.now ≡ true
size_passed c = sym c.file_size_right.ensures ∙ c.if-not-file_size_right.false

-- after the loop all blocks are tested
found : (c : After-loop-k) → refusal_of c.loop-k.first ≡ first_failing (whole c.args.s.now)
found c =
    let f = c.args.s.now in
    let e : c.loop-k.k ≡ blocks f = omega (arith, c.block_count-n.ensures) in
    c.loop-k.invariant ∙ ap (λ k. first_failing (so_far f k)) e ∙ ap first_failing (end f)

-- behind them stands the test of the records
abbrev rest : List ℕ → List Test
rest bs = record { number = 11; passes = records_right (file_records bs) } ∷ []

later : (f : List ℕ) → file_size_right f ≡ true → first_failing (whole f) ≡ 0 → first_failing (file_tests f) ≡ first_failing (rest f)
unfolding all
later f s e =
    passes_on record { number = 1; passes = file_size_right f } (whole f ++ rest f) s
    ∙ refused_later (whole f) (rest f) refl e

pub returns-then-not-file_size_right : goal.returns-then-not-file_size_right
unfolding first_failing
returns-then-not-file_size_right c = rw (sym c.file_size_right.ensures ∙ c.if-not-file_size_right.true)

pub loop-k-init : goal.loop-k-init
loop-k-init c = c.count_refusal-first.ensures ∙ start c.args.s.now

pub block_refusal-requires : goal.block_refusal-requires
block_refusal-requires c = (
  c.loop-k-test.true,
  omega (arith, c.block_count-n.ensures, (sized c.args.s.now (size_passed (goal.at.block_refusal-requires c).Else-not-file_size_right)).at_most),
  omega (arith, c.block_count-n.ensures, (sized c.args.s.now (size_passed (goal.at.block_refusal-requires c).Else-not-file_size_right)).whole),
)

pub loop-k-preserved : goal.loop-k-preserved
loop-k-preserved c =
    c.earlier-first.ensures
    ∙ ap₂ earlier c.loop-k.invariant (c.block_refusal.ensures ∙ ap (λ n. first_failing (block_tests c.args.s.now (file_block n c.loop-k.k))) c.block_count-n.ensures)
    ∙ next c.args.s.now c.loop-k.k

pub returns-in_err-first : goal.returns-in_err-first
returns-in_err-first c =
    let f = c.args.s.now in
    let e = c.in_err-first.field-0.0 in
    let same : c.from_residual.result ≡ Err e = search rules in
    let is : c.loop-k.first ≡ Err e = c.in_err-first.was in
    let number = found (goal.at.returns-in_err-first c).After-loop-k in
    ap refusal_of same ∙ sym (ap refusal_of is) ∙ number
    ∙ sym (passes_on record { number = 1; passes = file_size_right f } (whole f ++ rest f) (size_passed (goal.at.returns-in_err-first c).Else-not-file_size_right) ∙ refused_first (whole f) (rest f) (λ z. let n = number_some e in let m = sym (ap refusal_of is) ∙ number ∙ z in omega (arith, n, m)))

pub file_records_right-requires : goal.file_records_right-requires
file_records_right-requires c =
    let f = c.args.s.now in
    let b = blocks_pass f (sym (found (goal.at.file_records_right-requires c).After-loop-k) ∙ ap refusal_of c.in_ok-first.was) in
    (size_passed (goal.at.file_records_right-requires c).Else-not-file_size_right, b.few_records, count_fits f (sized f (size_passed (goal.at.file_records_right-requires c).Else-not-file_size_right)) b)

pub returns-then-not-file_records_right : goal.returns-then-not-file_records_right
unfolding first_failing
returns-then-not-file_records_right c =
    sym (later c.args.s.now (size_passed (goal.at.returns-then-not-file_records_right c).Else-not-file_size_right) (sym (found (goal.at.returns-then-not-file_records_right c).After-loop-k) ∙ ap refusal_of c.in_ok-first.was) ∙ ap (λ b. cond b 0 11) (sym c.file_records_right.ensures ∙ c.if-not-file_records_right.true))

pub returns : goal.returns
unfolding first_failing
returns c =
    sym (later c.args.s.now (size_passed (goal.at.returns c).Else-not-file_size_right) (sym (found (goal.at.returns c).After-loop-k) ∙ ap refusal_of c.in_ok-first.was) ∙ ap (λ b. cond b 0 11) (sym c.file_records_right.ensures ∙ c.if-not-file_records_right.false))
