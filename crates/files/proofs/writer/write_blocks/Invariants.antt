use mathlib.Core.Path.{◌≡◌}
use Rattle.layout.specs.Bytes.{put}
use Rattle.files.proofs.WrittenFile.{first_blocks}
use Rattle.files.proofs.writer.write_blocks.Given as goal

abbrev pub invariant-loop-k : goal.invariant-loop-k
invariant-loop-k l = l.blocks ≡ put l.initial.blocks 0 (first_blocks l.converter l.k)
