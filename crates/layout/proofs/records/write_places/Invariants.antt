use Rattle.std.proofs.Common.{◌≡◌}
use Rattle.layout.specs.Bytes.{put}
use Rattle.layout.proofs.RecordBytes.{first_places_to}
use Rattle.layout.proofs.records.write_places.Given as goal

abbrev pub invariant-loop-k : goal.invariant-loop-k
invariant-loop-k l = l.s ≡ put l.initial.s l.at (first_places_to l.r l.k)
