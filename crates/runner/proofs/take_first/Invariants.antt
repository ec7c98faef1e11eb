use mathlib.Core.Path.{◌≡◌}
use lib.ListN.{drop}
use Rattle.model.specs.Converters.{node}
use Rattle.model.specs.Runs.{first_fit}
use Rattle.layout.specs.Converters.{converter}
use Rattle.runner.proofs.take_first.Given as goal

abbrev pub invariant-loop-k : goal.invariant-loop-k
invariant-loop-k l =
    first_fit l.shown (node (converter l.s) l.c).edges ≡ first_fit l.shown (drop l.k (node (converter l.s) l.c).edges)
