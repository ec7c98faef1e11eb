use mathlib.Core.Path.{◌≡◌}
use Prim.Native.Nat.{◌*◌}
use lib.ListN.{take}
use Rattle.layout.specs.Sizes.{record_bytes}
use Rattle.layout.specs.Bytes.{put}
use Rattle.files.specs.Files.{file_records}
use Rattle.files.proofs.reader.read_records.Given as goal

abbrev pub invariant-loop-j : goal.invariant-loop-j
invariant-loop-j l = l.converter ≡ put l.initial.converter 0 (take (record_bytes * l.j) (file_records l.s))
