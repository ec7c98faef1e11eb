-- `can_show_all` meets its contract.
use mathlib.Core.Path.{◌∙◌}
use Rattle.std.proofs.Common.{rules}
use borrow.Author.Tests.{tests}
use Rattle.std.proofs.lemmas.Iterator.{YieldsList-from_slice}
use Rattle.std.proofs.lemmas.Iterator.Search.{all_from_yields_List}
use Rattle.runner.specs.Ticks.{can_show}
use Rattle.runner.proofs.AllFit.{all_is}
use Rattle.runner.proofs.can_show_all.Goals as goal

pub returns : goal.returns
returns c =
    all_from_yields_List can_show _ _ c.all.result c.all.ensures.ran (YieldsList-from_slice c.args.shown (cc)) (λ x b q k. search (rules, tests))
    ∙ all_is can_show c.args.shown
