-- `ranges` meets its contract: a refusal, or the blocks of the sides and behind them those of formulas and rules.
use mathlib.Core.Path.{◌≡◌, sym, ap, ap₂, subst⁻¹, ◌∙◌}
use mathlib.Core.List.{List, flatten}
use Prim.Native.Nat.{ℕ, ◌-◌, ◌*◌}
use native.Mathlib.Omega.{arith}
use lib.ListN.{length, drop, length-drop}
use lib.Seq.{take_all}
use borrow.Author.Rules.{rules}
use Rattle.std.specs.Prelude.{Ok, Err}
use Rattle.layout.specs.Sizes.{block_bytes}
use Rattle.layout.specs.Tables.{table}
use Rattle.layout.specs.Bytes.{part, put}
use Rattle.layout.specs.Designs.{held}
use Rattle.layout.proofs.Put.{put_behind}
use Rattle.refusals.proofs.ByRefusal.{where_none, where_some}
use Rattle.refusals.specs.declared.refusal.Refusal.{Refusal}
use Rattle.refusals.specs.Answered.{done, refused, number}
use Rattle.refusals.proofs.Answered.{number_some}
use Rattle.ranges.specs.Ranges.{ranges_refusal, ranged_block, ranged_design, Ranges}
use Rattle.ranges.proofs.Refused.{passes}
use Rattle.ranges.proofs.NewBlocks.{old_whole, length_sides}
use Rattle.ranges.proofs.ranges.Goals as goal

module _ (ds es before : List ℕ) where
  -- a refusal leaves all as it was
  declined : (e : Refusal) → number e ≡ ranges_refusal ds es (length before) → Ranges ds es before (Err e) before
  declined e same =
      let refusal = ranges_refusal ds es (length before) in
      let some : refusal ≡ 0 → ⊥ = λ z. let n = number_some e in omega (arith, n, same, z) in
      record {
        answers = ap refused same ∙ sym (where_some refusal (done tt) (refused refusal) some);
        leaves = sym (where_some refusal (put before 0 (ranged_design ds es)) before some);
      }

  -- the blocks of the sides, and the others behind them
  written : (after : List ℕ) → ranges_refusal ds es (length before) ≡ 0
      → after ≡ put (put before 0 (flatten (table (held ds) (ranged_block ds es)))) (block_bytes * held ds) (part ds (block_bytes * held ds) (length ds - block_bytes * held ds))
      → Ranges ds es before (Ok tt) after
  unfolding ranged_design
  written after ok e =
      let refusal = ranges_refusal ds es (length before) in
      let sides = flatten (table (held ds) (ranged_block ds es)) in
      let at = block_bytes * held ds in
      let rest = drop at ds in
      let w = old_whole ds es (length before) ok in
      let roomy = (passes ds es (length before) ok).roomy in
      record {
        answers = sym (where_none refusal (done tt) (refused refusal) ok);
        leaves =
            e
            ∙ ap (put (put before 0 sides) at) (take_all (length ds - at) rest (omega (arith, length-drop at ds)))
            ∙ ap (λ n. put (put before 0 sides) n rest) (omega arith)
            ∙ put_behind sides rest before 0 at (length_sides ds es (length before) ok) (omega (arith, length-drop at ds, w.long, roomy))
            ∙ sym (where_none refusal (put before 0 (ranged_design ds es)) before ok);
      }

pub returns-in_err-ranges_refusal : goal.returns-in_err-ranges_refusal
returns-in_err-ranges_refusal c =
    let a = c.args in
    let e = c.in_err-ranges_refusal.field-0.0 in
    let same : c.from_residual.result ≡ Err e = search rules in
    subst⁻¹ (λ r. Ranges a.design.now a.list.now a.res.now r a.res.now) same (declined a.design.now a.list.now a.res.now e c.in_err-ranges_refusal.ensures)

pub write_sides-requires : goal.write_sides-requires
write_sides-requires c =
    let a = c.args in
    let p = passes a.design.now a.list.now (length a.res.now) (sym c.in_ok-ranges_refusal.ensures) in
    (p.designed, p.listed, p.fitting, p.roomy)

pub formulas_at-behind-requires : goal.formulas_at-behind-requires
formulas_at-behind-requires c =
    let a = c.args in
    old_whole a.design.now a.list.now (length a.res.now) (sym c.in_ok-ranges_refusal.ensures)

pub copy-requires : goal.copy-requires
copy-requires c =
    let a = c.args in
    let w = old_whole a.design.now a.list.now (length a.res.now) (sym c.in_ok-ranges_refusal.ensures) in
    let roomy = (passes a.design.now a.list.now (length a.res.now) (sym c.in_ok-ranges_refusal.ensures)).roomy in
    let at = c.formulas_at-behind.ensures in
    (omega (arith, at, w.long), omega (arith, at, w.long, roomy))

pub returns : goal.returns
returns c =
    let a = c.args in
    written a.design.now a.list.now a.res.now c.copy.new.dst (sym c.in_ok-ranges_refusal.ensures)
    (c.copy.ensures
    ∙ ap₂ (λ b n. put b n (part a.design.now n (length a.design.now - n))) c.write_sides.ensures c.formulas_at-behind.ensures)
