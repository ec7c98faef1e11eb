-- `files::block_refusal` meets its contract: the first test that fails.
use mathlib.Core.Path.{◌≡◌, refl, sym, ap, ◌∙◌}
use Prim.Native.Nat.{◌+◌, ◌-◌, ◌*◌}
use native.Mathlib.Omega.{arith}
use Rattle.layout.specs.Sizes.{record_bytes}
use Rattle.layout.specs.Bytes.{part, all_zero}
use Rattle.files.specs.Files.{file_block}
use Rattle.refusals.specs.Refusals.{first_failing, check_right, header_right, count_right, unused_right}
use Rattle.files.proofs.BlockTests.{counted, unused_behind}
use Rattle.files.proofs.reader.block_refusal.Goals as goal
use Rattle.files.proofs.reader.block_refusal.Goals.{After-behind_right, After-check_right, After-count_right, After-header_right}

-- each answer is that of the block's test
first : (c : After-check_right) → check_right c.args.s.now (file_block c.args.n c.args.k) ≡ c.check_right.result
first c = sym (c.check_right.ensures (file_block c.args.n c.args.k) refl)

second : (c : After-header_right) → header_right c.args.s.now (file_block c.args.n c.args.k) ≡ c.header_right.result
second c = sym (c.header_right.ensures (file_block c.args.n c.args.k) refl (sym c.from.ensures) refl)

third : (c : After-count_right) → count_right c.args.s.now (file_block c.args.n c.args.k) ≡ c.count_right.result
third c = sym (c.count_right.ensures (file_block c.args.n c.args.k) refl (sym c.least_count.ensures) refl)

fourth : (c : After-behind_right) → unused_right c.args.s.now (file_block c.args.n c.args.k) ≡ c.behind_right.result
fourth c =
    let a = c.args in
    unused_behind a.s.now a.n a.k
    ∙ ap (λ m. all_zero (part a.s.now (512 * a.k + 4 + record_bytes * m) (506 - record_bytes * m))) (sym c.read_byte-count.ensures)
    ∙ sym c.behind_right.ensures

pub returns-then-not-check_right : goal.returns-then-not-check_right
unfolding first_failing
returns-then-not-check_right c = rw (first (goal.at.returns-then-not-check_right c).After-check_right ∙ c.if-not-check_right.true)

pub returns-then-not-header_right : goal.returns-then-not-header_right
unfolding first_failing
returns-then-not-header_right c =
    rw (
      first (goal.at.returns-then-not-header_right c).After-check_right ∙ c.if-not-check_right.false,
      second (goal.at.returns-then-not-header_right c).After-header_right ∙ c.if-not-header_right.true,
    )

pub returns-then-not-count_right : goal.returns-then-not-count_right
unfolding first_failing
returns-then-not-count_right c =
    rw (
      first (goal.at.returns-then-not-count_right c).After-check_right ∙ c.if-not-check_right.false,
      second (goal.at.returns-then-not-count_right c).After-header_right ∙ c.if-not-header_right.false,
      third (goal.at.returns-then-not-count_right c).After-count_right ∙ c.if-not-count_right.true,
    )

pub behind_right-requires : goal.behind_right-requires
behind_right-requires c =
    let a = c.args in
    omega (arith, c.read_byte-count.ensures, (counted a.s.now a.n a.k (third (goal.at.behind_right-requires c).After-count_right ∙ c.if-not-count_right.false)).at_most)

pub returns-then-not-behind_right : goal.returns-then-not-behind_right
unfolding first_failing
returns-then-not-behind_right c =
    rw (
      first (goal.at.returns-then-not-behind_right c).After-check_right ∙ c.if-not-check_right.false,
      second (goal.at.returns-then-not-behind_right c).After-header_right ∙ c.if-not-header_right.false,
      third (goal.at.returns-then-not-behind_right c).After-count_right ∙ c.if-not-count_right.false,
      fourth (goal.at.returns-then-not-behind_right c).After-behind_right ∙ c.if-not-behind_right.true,
    )

pub returns : goal.returns
unfolding first_failing
returns c =
    rw (
      first (goal.at.returns c).After-check_right ∙ c.if-not-check_right.false,
      second (goal.at.returns c).After-header_right ∙ c.if-not-header_right.false,
      third (goal.at.returns c).After-count_right ∙ c.if-not-count_right.false,
      fourth (goal.at.returns c).After-behind_right ∙ c.if-not-behind_right.false,
    )
