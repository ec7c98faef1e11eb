-- `entries::last_count` meets its contract.
use mathlib.Core.Path.{ap, ◌∙◌}
use Rattle.std.specs.Option.{unwrap_or}
use Rattle.ranges.proofs.EntryRanges.{last_told}
use Rattle.ranges.proofs.entries.last_count.Goals as goal

pub returns : goal.returns
returns c = c.from.ensures ∙ c.unwrap_or.ensures ∙ ap (λ o. unwrap_or o c.args.e.least) c.greatest.ensures ∙ last_told c.args.e
