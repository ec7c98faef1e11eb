-- `tests::fresh` meets its contract.
use Rattle.std.proofs.Common.{rules}
use borrow.Author.Tests.{tests}
use mathlib.Core.Bool.{not}
use Rattle.ranges.specs.Entries.{entry_at, same_state}
use Rattle.ranges.proofs.EachNumber.{every_from_all}
use Rattle.ranges.proofs.tests.fresh.Goals as goal

pub returns : goal.returns
returns c =
    every_from_all (λ i. not (same_state (entry_at c.args.list.now i) (entry_at c.args.list.now c.args.j))) c.args.j _ _ _ c.all.ensures.ran (λ x b q k. search (rules, tests))
