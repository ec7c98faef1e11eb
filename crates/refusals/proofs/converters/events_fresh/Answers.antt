-- `converters::events_fresh` meets its contract.
use mathlib.Core.Path.{ap, ◌∙◌}
use mathlib.Core.Bool.{Bool, not}
use Prim.Native.Nat.{ℕ}
use borrow.Author.Tests.{tests}
use lib.ListN.{get_or}
use lib.Pointwise.{pointwise}
use Rattle.std.specs.Ordering.{int_eq}
use Rattle.std.proofs.Common.{rules}
use Rattle.layout.specs.Records.{no_transition}
use Rattle.refusals.proofs.NodeRecords.{events_same}
use Rattle.refusals.proofs.Ranges.{every_from_all, every_cong}
use Rattle.refusals.proofs.converters.events_fresh.Goals as goal

pub returns : goal.returns
returns c =
    let ps = c.args.r.now.places in
    let here = (get_or ps c.args.k no_transition).events in
    let apart : ℕ → Bool = λ j. not (pointwise int_eq (get_or ps j no_transition).events here) in
    every_from_all apart c.args.k _ _ _ c.all.ensures.ran (cc) (λ x b q k. search (rules, tests))
    ∙ every_cong apart _ c.args.k (λ j h. ap not (events_same _ here))
