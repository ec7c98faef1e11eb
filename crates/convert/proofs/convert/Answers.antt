-- `convert` meets its contract: a refusal of the search, or the blocks of the converter that it found.
use native.Mathlib.Omega.{arith}
use lib.ListN.{length-take}
use Rattle.search.proofs.Answers.{FoundIn, found_in}
use Rattle.convert.proofs.Converting.{found_converts}
use Rattle.convert.proofs.convert.Goals as goal
use Rattle.convert.proofs.convert.Goals.{In_ok-n}

found_here : (c : In_ok-n) → FoundIn c.args.design.now c.search.new.table c.in_ok-n.n
found_here c =
    let a = c.args in
    found_in a.design.now a.table.now a.work.now c.search.result c.search.new.table c.search.new.work c.search.ensures c.in_ok-n.n c.in_ok-n.was

pub slice_bounds-write-end : goal.slice_bounds-write-end
slice_bounds-write-end c = omega (arith, (found_here c).fits)

pub slice_bounds-write-end-2 : goal.slice_bounds-write-end-2
slice_bounds-write-end-2 c = simp length-take (omega (arith, (found_here c).fits))

pub returns : goal.returns
returns c =
    let a = c.args in
    found_converts a.design.now a.table.now a.work.now a.blocks.now c.search.new.table c.search.new.work c.search.auto.table c.requires c.search.result c.search.ensures
    c.in_ok-n.n c.in_ok-n.was c.write.new.blocks c.write.result c.write.ensures
