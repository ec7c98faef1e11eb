-- `state_tests::event_fresh` meets its contract.
use borrow.Author.Tests.{tests}
use Rattle.std.proofs.Common.{rules}
use Rattle.refusals.proofs.Ranges.{every_from_all}
use Rattle.refusals.proofs.state_tests.event_fresh.Goals as goal

pub returns : goal.returns
returns c = every_from_all _ c.args.k _ _ _ c.all.ensures.ran (cc) (λ x b q k. search (rules, tests))
