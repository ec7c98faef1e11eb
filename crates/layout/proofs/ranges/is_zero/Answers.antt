-- `ranges::is_zero` meets its contract.
use Rattle.std.proofs.Common.{eqb, sym, ◌∙◌, rules}
use borrow.Author.Tests.{tests}
use Rattle.std.proofs.lemmas.Iterator.{YieldsList-from_slice}
use Rattle.std.proofs.lemmas.Iterator.Search.{all_from_yields_List}
use Rattle.layout.specs.Bytes.{part, all_zero}
use Rattle.layout.proofs.ListTests.{all_is_list_all}
use Rattle.layout.proofs.Parts.{part_range}
use Rattle.layout.proofs.ranges.is_zero.Goals as goal

pub returns : goal.returns
unfolding all_zero
returns c =
    let a = c.args in
    all_from_yields_List (λ b. eqb b 0) _ _ _ c.all.ensures.ran (YieldsList-from_slice (part a.s.now a.at a.n) (c.iter.ensures.rest ∙ part_range a.s.now a.at a.n)) (λ x b q k. search (rules, tests))
    ∙ sym (all_is_list_all (λ b. eqb b 0) (part a.s.now a.at a.n))
