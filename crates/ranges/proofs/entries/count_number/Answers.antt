-- `entries::count_number` meets its contract.
use Rattle.std.proofs.Common.{rules}
use Rattle.ranges.specs.Entries.{range_of}
use Rattle.ranges.proofs.entries.count_number.Goals as goal

pub returns-then-k-eq0 : goal.returns-then-k-eq0
unfolding range_of
returns-then-k-eq0 c = search rules
