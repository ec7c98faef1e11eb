use mathlib.Core.Path.{◌≡◌}
use mathlib.Core.List.{flatten}
use Rattle.layout.specs.Tables.{table}
use Rattle.layout.specs.Bytes.{put}
use Rattle.ranges.specs.Ranges.{ranged_block}
use Rattle.ranges.proofs.blocks.write_sides.Given as goal

-- the blocks of the sides before i are put
abbrev pub invariant-loop-i : goal.invariant-loop-i
invariant-loop-i l = l.res ≡ put l.initial.res 0 (flatten (table l.i (ranged_block l.d l.list)))
