use mathlib.Core.Path.{◌≡◌}
use Rattle.refusals.specs.Answered.{refusal_of}
use Rattle.refusals.specs.Refusals.{first_failing}
use Rattle.files.proofs.FileTests.{so_far}
use Rattle.files.proofs.reader.file_refusal.Given as goal

abbrev pub invariant-loop-k : goal.invariant-loop-k
invariant-loop-k l = refusal_of l.first ≡ first_failing (so_far l.s l.k)
