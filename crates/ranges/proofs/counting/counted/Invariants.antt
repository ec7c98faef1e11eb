use mathlib.Core.Path.{◌≡◌}
use Prim.Native.Nat.{◌≤◌}
use lib.ListN.{length}
use Rattle.layout.specs.Sizes.{place_count}
use Rattle.ranges.specs.Entries.{range_of}
use Rattle.ranges.proofs.CountedRecords.{moves_in, counted_to}
use Rattle.ranges.proofs.counting.counted.Given as goal

-- what stands for the transitions so far is in the first `kept` places
abbrev pub invariant-loop-m : goal.invariant-loop-m
invariant-loop-m l =
    (l.kept ≤ l.m-index) × (length l.places ≡ place_count) × (moves_in l.places l.kept ≡ counted_to (range_of l.e) l.n l.k l.fn.q l.m-index)
