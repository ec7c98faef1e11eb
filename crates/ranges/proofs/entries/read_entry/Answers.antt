-- `entries::read_entry` meets its contract: four bytes, one behind the other.
use Rattle.ranges.specs.Entries.{entry_at}
use borrow.Author.Rules.{rules}
use Rattle.ranges.proofs.entries.read_entry.Goals as goal

pub returns : goal.returns
unfolding entry_at
returns c = search rules
