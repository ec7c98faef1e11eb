-- `counting::is_below` meets its contract.
use Rattle.std.proofs.Common.{rules}
use mathlib.Core.Path.{◌≡◌, ap, ◌∙◌}
use borrow.Author.Tests.{tests}
use Rattle.ranges.proofs.EntryRanges.{below_in, below_told}
use Rattle.ranges.proofs.counting.is_below.Goals as goal

pub returns : goal.returns
returns c =
    let a = c.args in
    let told : c.is_none_or.result ≡ below_in a.k c.greatest.result = search (rules, tests) in
    told ∙ ap (below_in a.k) c.greatest.ensures ∙ below_told a.e a.k
