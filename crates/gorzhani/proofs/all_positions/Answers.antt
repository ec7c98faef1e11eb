-- `all_positions` meets its contract: 1 to 8 first, then 9; else the positions, which were counted to the end since they aren't too many.
use mathlib.Core.Path.{◌≡◌, sym, ap, ◌∙◌}
use mathlib.Core.List.{List, []}
use Prim.Native.Nat.{ℕ, ◌≤◌, ◌<◌}
use native.Mathlib.Omega.{arith}
use borrow.Author.Rules.{rules}
use borrow.Author.Tests.{le-leb, lt-leb}
use lib.IntN.{pos}
use Rattle.std.specs.Prelude.{Err}
use Rattle.model.specs.Positions.{positions}
use Rattle.layout.specs.Sizes.{most_positions}
use Rattle.layout.specs.Designs.{design}
use Rattle.refusals.specs.Answered.{number, answered}
use Rattle.refusals.specs.Refusals.{first_failing, positions_test, design_refusal}
use Rattle.refusals.proofs.Answered.{number_some}
use Rattle.refusals.proofs.Passing.{passes_on, stops_at}
use Rattle.refusals.proofs.WellFormed.{accepted_counts}
use Rattle.gorzhani.specs.Codes.{refusal_code, count_code}
use Rattle.gorzhani.specs.Calls.{positions_refusal}
use Rattle.gorzhani.proofs.Positions.{refused_by_design, refused_behind, number_taken, number_refused}
use Rattle.gorzhani.proofs.all_positions.Goals as goal

-- behind a design that passes: 9, or none
many : (ds : List ℕ) → design_refusal ds ≡ 0 → most_positions < positions (design ds) → positions_refusal ds ≡ 9
many ds d h = refused_behind ds d ∙ stops_at (positions_test ds) [] (lt-leb (positions (design ds)) most_positions h)

few : (ds : List ℕ) → design_refusal ds ≡ 0 → positions (design ds) ≤ most_positions → positions_refusal ds ≡ 0
unfolding first_failing
few ds d h = refused_behind ds d ∙ passes_on (positions_test ds) [] (le-leb (positions (design ds)) most_positions h)

pub returns-in_err-design_refusal-clause-number : goal.returns-in_err-design_refusal-clause-number
returns-in_err-design_refusal-clause-number c =
    let ds = c.args.design.now in
    let e = c.in_err-design_refusal.field-0.0 in
    let same : c.from_residual.result ≡ Err e = search rules in
    let is : number e ≡ design_refusal ds = c.in_err-design_refusal.ensures in
    let declined : design_refusal ds ≡ 0 → ⊥ = λ z. let n = number_some e in omega (arith, n, is, z) in
    let by : positions_refusal ds ≡ design_refusal ds = refused_by_design ds declined in
    ap (λ r. count_code (answered r)) same
    ∙ ap refusal_code (is ∙ sym by)
    ∙ sym (number_refused ds (λ z. declined (sym by ∙ z)))

pub positions_of-n-requires : goal.positions_of-n-requires
positions_of-n-requires c = accepted_counts c.args.design.now (sym c.in_ok-design_refusal.ensures)

pub returns-then-n-gt-MOST_POSITIONS-clause-number : goal.returns-then-n-gt-MOST_POSITIONS-clause-number
returns-then-n-gt-MOST_POSITIONS-clause-number c =
    let ds = c.args.design.now in
    let nine = many ds (sym c.in_ok-design_refusal.ensures) (omega (arith, c.positions_of-n.ensures)) in
    ap refusal_code (sym nine) ∙ sym (number_refused ds (λ z. omega (arith, nine, z)))

pub returns-clause-number : goal.returns-clause-number
returns-clause-number c =
    let ds = c.args.design.now in
    let h : positions (design ds) ≤ most_positions = omega (arith, c.positions_of-n.ensures) in
    ap pos (omega (arith, c.positions_of-n.ensures)) ∙ sym (number_taken ds (few ds (sym c.in_ok-design_refusal.ensures) h))
