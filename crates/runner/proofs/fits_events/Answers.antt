-- `fits_events` meets its contract.
use mathlib.Core.Path.{◌∙◌}
use Rattle.std.proofs.Common.{rules}
use borrow.Author.Tests.{tests}
use Rattle.std.proofs.lemmas.Iterator.{YieldsList-from_slice, YieldsList-from_zip}
use Rattle.std.proofs.lemmas.Iterator.Search.{all_from_yields_List}
use Rattle.model.specs.Events.{Event}
use Rattle.model.specs.Runs.{fits}
use Rattle.runner.proofs.AllFit.{all_fit_is}
use Rattle.runner.proofs.fits_events.Goals as goal

pub returns : goal.returns
returns c =
    let a = c.args in
    all_from_yields_List (λ (p : Event × Event). fits p.0 p.1) c.all.new.self _ c.all.result c.all.ensures.ran (YieldsList-from_zip (YieldsList-from_slice a.shown (search rules)) (YieldsList-from_slice a.events (search rules))) (λ x b q k. search (rules, tests))
    ∙ all_fit_is a.shown a.events (search rules)
