-- `rules` meets its contract: the lines are read, what is refused leaves all as it was, and else the blocks are written.
use mathlib.Core.Path.{◌≡◌, sym, ap, subst⁻¹, ◌∙◌}
use borrow.Author.Rules.{rules}
use Rattle.std.specs.Prelude.{Err}
use Rattle.rules.specs.Rules.{Ruling}
use mathlib.Core.List.{List}
use Prim.Native.Nat.{ℕ}
use native.Mathlib.Omega.{arith}
use lib.ListN.{length}
use Rattle.layout.specs.Sizes.{block_bytes}
use Rattle.layout.specs.Bytes.{part, put}
use Rattle.layout.specs.Blocks.{sealed}
use Rattle.rules.specs.Lining.{ReadAs}
use Rattle.rules.proofs.Answers.{unread, passes, declined, written}
use Rattle.rules.proofs.rules.Goals as goal
use Rattle.rules.proofs.rules.Goals.{In-Some}

-- the rules of the text
text_read : (c : In-Some) → ReadAs c.args.text.now c.in-Some.read c.read_lines.new.store.records c.read_lines.new.rules
text_read c = c.in-Some.ensures

pub returns-in_default : goal.returns-in_default
returns-in_default c =
    let a = c.args in
    unread a.text.now a.res.now c.in_default.ensures

pub returns-in_err-text_refusal : goal.returns-in_err-text_refusal
returns-in_err-text_refusal c =
    let a = c.args in
    let e = c.in_err-text_refusal.field-0.0 in
    let same : c.from_residual.result ≡ Err e = search rules in
    subst⁻¹ (λ r. Ruling a.text.now a.res.now r a.res.now) same
    (declined a.text.now a.res.now (text_read (goal.at.returns-in_err-text_refusal c).In-Some) e c.in_err-text_refusal.ensures)

pub overflow_cast-count : goal.overflow_cast-count
overflow_cast-count c = omega (arith, (passes c.in-Some.read (length c.args.res.now) (sym c.in_ok-text_refusal.ensures)).few_records)

pub overflow_mul-count : goal.overflow_mul-count
overflow_mul-count c = omega (arith, (passes c.in-Some.read (length c.args.res.now) (sym c.in_ok-text_refusal.ensures)).few_records)

pub write-requires : goal.write-requires
write-requires c =
    let p = passes c.in-Some.read (length c.args.res.now) (sym c.in_ok-text_refusal.ensures) in
    (omega (arith, p.roomy), omega (arith, p.few_records, c.read_lines.new.store.all_records), omega (arith, p.few_records))

pub overflow_cast-n : goal.overflow_cast-n
overflow_cast-n c = omega (arith, (passes c.in-Some.read (length c.args.res.now) (sym c.in_ok-text_refusal.ensures)).few_rules)

pub write-requires-2 : goal.write-requires-2
write-requires-2 c =
    let p = passes c.in-Some.read (length c.args.res.now) (sym c.in_ok-text_refusal.ensures) in
    (omega (arith, p.roomy, c.write.auto.s), omega (arith, p.few_rules, c.read_lines.auto.rules), omega (arith, p.few_rules))

pub returns : goal.returns
returns c =
    let a = c.args in
    let r = c.in-Some.read in
    written a.text.now a.res.now (text_read (goal.at.returns c).In-Some) c.write-2.new.s (sym c.in_ok-text_refusal.ensures)
    (c.write-2.ensures ∙ ap (λ (xs : List ℕ). put xs block_bytes (sealed 4 r.rules 0 (part c.read_lines.new.rules 0 r.rules))) c.write.ensures)
