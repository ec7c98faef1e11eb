-- `searched` is safe: the records of the converter found stand within the table.
use native.Mathlib.Omega.{arith}
use lib.ListN.{length-take}
use Rattle.search.proofs.Answers.{FoundIn, found_in}
use Rattle.search_rows.proofs.searched.Given as given
use Rattle.search_rows.proofs.searched.Goals as goal
use Rattle.search_rows.proofs.searched.Goals.{In-Ok}

found_here : (g : given.Over) (c : In-Ok g) → FoundIn c.args.d.now c.search-outcome.new.table c.in-Ok.n
found_here g c =
    found_in c.args.d.now _ _ c.search-outcome.result c.search-outcome.new.table c.search-outcome.new.work c.search-outcome.ensures c.in-Ok.n c.in-Ok.is

pub slice_bounds-table-end : goal.slice_bounds-table-end
slice_bounds-table-end g c = omega (arith, (found_here g (goal.at.slice_bounds-table-end g c).In-Ok).fits)

pub slice_bounds-converter-end : goal.slice_bounds-converter-end
slice_bounds-converter-end g c = simp length-take (omega (arith, (found_here g (goal.at.slice_bounds-converter-end g c).In-Ok).fits))
