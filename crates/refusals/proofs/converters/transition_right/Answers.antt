-- `converters::transition_right` meets its contract.
use mathlib.Core.Path.{◌≡◌, sym, ◌∙◌}
use native.Mathlib.Omega.{arith}
use borrow.Author.Tests.{tests}
use Rattle.std.proofs.Common.{rules}
use Rattle.std.proofs.lemmas.Bool.Decides.{nat_tests}
use Rattle.std.proofs.lemmas.Iterator.{YieldsList-from_slice}
use Rattle.std.proofs.lemmas.Iterator.Search.{all_from_yields_List}
use Rattle.model.specs.Judged.{all}
use Rattle.layout.specs.Tests.{in_range}
use Rattle.refusals.proofs.AllTests.{all_is_list_all}
use Rattle.refusals.proofs.converters.transition_right.Goals as goal
use Rattle.refusals.proofs.converters.transition_right.Goals.{After-all}

-- what is asked of the events
ranged : (c : After-all) → c.all.result ≡ all in_range c.args.t.events
ranged c =
    let es = c.args.t.events in
    all_from_yields_List in_range _ _ _ c.all.ensures.ran (YieldsList-from_slice es (cc)) (λ x b q k. search (rules, tests)) ∙ sym (all_is_list_all in_range es)

pub returns-then-all : goal.returns-then-all
returns-then-all c = let e = ranged (goal.at.returns-then-all c).After-all in grind (arith, nat_tests)

pub returns-else-all : goal.returns-else-all
returns-else-all c = let e = ranged (goal.at.returns-else-all c).After-all in grind (arith, nat_tests)
