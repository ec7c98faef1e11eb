-- `judge_refusal` meets its contract: the design's refusals first, then the converter's, then 12 and 13.
use mathlib.Core.Path.{◌≡◌, sym, ap, ap₂, ◌∙◌}
use mathlib.Core.Bool.{true, cond}
use Prim.Native.Nat.{◌*◌}
use native.Mathlib.Omega.{arith}
use borrow.Author.Rules.{rules}
use borrow.Author.Tests.{le-leb, lt-leb}
use lib.Dec.{leb}
use lib.ListN.{length}
use Rattle.layout.specs.Sizes.{cell_bytes}
use Rattle.layout.specs.Designs.{design}
use Rattle.layout.specs.Converters.{records}
use Rattle.std.specs.Prelude.{Err}
use Rattle.refusals.specs.Answered.{refusal_of}
use Rattle.refusals.proofs.Answered.{number_some}
use Rattle.refusals.proofs.Accepted.{accepted}
use Rattle.refusals.proofs.WellFormed.{passed}
use Rattle.judge.proofs.Judging.{design_refused, converter_refused, by_lent}
use Rattle.judge.proofs.judge_refusal.Goals as goal
use Rattle.judge.proofs.judge_refusal.Goals.{Else-listed-rule_count}

pub returns-in_err-design_refusal : goal.returns-in_err-design_refusal
returns-in_err-design_refusal c =
    let a = c.args in
    let e = c.in_err-design_refusal.field-0.0 in
    let same : c.from_residual.result ≡ Err e = search rules in
    let number = c.in_err-design_refusal.ensures in
    ap refusal_of same ∙ number ∙ sym (design_refused a.design.now a.converter.now a.room a.listed (λ z. let n = number_some e in omega (arith, n, number, z)))

pub returns-in_err-converter_refusal : goal.returns-in_err-converter_refusal
returns-in_err-converter_refusal c =
    let a = c.args in
    let e = c.in_err-converter_refusal.field-0.0 in
    let same : c.from_residual-in_err-converter_refusal.result ≡ Err e = search rules in
    let number = c.in_err-converter_refusal.ensures in
    ap refusal_of same ∙ number
    ∙ sym (converter_refused a.design.now a.converter.now a.room a.listed (sym c.in_ok-design_refusal.ensures) (λ z. let n = number_some e in omega (arith, n, number, z)))

pub rule_count-requires : goal.rule_count-requires
rule_count-requires c = (passed c.args.design.now (sym c.in_ok-design_refusal.ensures)).whole

pub returns-then-listed-rule_count : goal.returns-then-listed-rule_count
returns-then-listed-rule_count c =
    let a = c.args in
    sym (by_lent a.design.now a.converter.now a.room a.listed (sym c.in_ok-design_refusal.ensures) (sym c.in_ok-converter_refusal.ensures)
    ∙ ap (λ t. cond t (cond (leb (cell_bytes * records a.converter.now) a.room) 0 13) 12)
    (lt-leb (length (design a.design.now).rules) a.listed (omega (arith, c.rule_count.ensures))))

pub overflow_mul-count : goal.overflow_mul-count
overflow_mul-count c =
    omega (arith, c.count.ensures, (accepted c.args.converter.now (sym c.in_ok-converter_refusal.ensures)).at_most)

-- the list is long enough
listed : (c : Else-listed-rule_count) → let a = c.args in leb (length (design a.design.now).rules) a.listed ≡ true
listed c =
    let a = c.args in
    le-leb (length (design a.design.now).rules) a.listed (omega (arith, c.rule_count.ensures))

pub returns-then-room-count : goal.returns-then-room-count
returns-then-room-count c =
    let a = c.args in
    sym (by_lent a.design.now a.converter.now a.room a.listed (sym c.in_ok-design_refusal.ensures) (sym c.in_ok-converter_refusal.ensures)
    ∙ ap₂ (λ t u. cond t (cond u 0 13) 12) (listed (goal.at.returns-then-room-count c).Else-listed-rule_count) (lt-leb (cell_bytes * records a.converter.now) a.room (omega (arith, c.count.ensures))))

pub returns : goal.returns
returns c =
    let a = c.args in
    sym (by_lent a.design.now a.converter.now a.room a.listed (sym c.in_ok-design_refusal.ensures) (sym c.in_ok-converter_refusal.ensures)
    ∙ ap₂ (λ t u. cond t (cond u 0 13) 12) (listed (goal.at.returns c).Else-listed-rule_count) (le-leb (cell_bytes * records a.converter.now) a.room (omega (arith, c.count.ensures))))
