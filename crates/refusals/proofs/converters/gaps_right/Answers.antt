-- `converters::gaps_right` meets its contract.
use mathlib.Core.Path.{sym, ap, ◌∙◌}
use mathlib.Core.Bool.{Bool}
use mathlib.Core.List.{List}
use Prim.Native.Nat.{ℕ, ◌+◌, ◌*◌}
use borrow.Author.Tests.{tests}
use lib.Dec.{eqb}
use Rattle.std.proofs.Common.{rules}
use Rattle.layout.specs.Sizes.{side_count, places_at, transition_bytes}
use Rattle.layout.specs.Bytes.{byte, all_zero}
use Rattle.layout.specs.Unused.{place_gaps}
use Rattle.layout.proofs.Tables.{length_table, entry}
use Rattle.refusals.proofs.Ranges.{every_from_all, every_cong, every_all}
use Rattle.refusals.proofs.converters.gaps_right.Goals as goal

-- that byte of place k
abbrev gap : List ℕ → ℕ → ℕ → ℕ
gap s at k = byte s (at + places_at + transition_bytes * k + side_count)

pub returns : goal.returns
unfolding all_zero
returns c =
    let a = c.args in
    let g = gap a.s.now a.at in
    let zero : ℕ → Bool = λ k. eqb (g k) 0 in
    every_from_all zero a.n _ _ _ c.all.ensures.ran (cc) (λ x b q k. search (rules, tests))
    ∙ every_cong zero _ a.n (λ k h. ap (λ b. eqb b 0) (sym (entry g 0 a.n k h)))
    ∙ every_all (λ b. eqb b 0) 0 (place_gaps a.n a.s.now a.at) a.n (length_table _ _)
