-- `files::record_count` meets its contract: full blocks, and the count of the last.
use mathlib.Core.Path.{◌∙◌, ap}
use Prim.Native.Nat.{◌+◌, ◌-◌, ◌*◌}
use native.Mathlib.Omega.{arith}
use Rattle.layout.specs.Sizes.{block_records}
use Rattle.layout.specs.Bytes.{byte}
use Rattle.files.specs.Files.{file_count}
use Rattle.files.proofs.FileSizes.{sized}
use Rattle.files.proofs.reader.record_count.Goals as goal

pub overflow_sub-last : goal.overflow_sub-last
overflow_sub-last c = omega (arith, c.block_count-last.ensures, (sized c.args.s.now c.requires).some_block)

pub read_byte-requires : goal.read_byte-requires
read_byte-requires c =
    let z = sized c.args.s.now c.requires in
    omega (arith, c.block_count-last.ensures, z.some_block, z.whole)

pub returns : goal.returns
unfolding file_count
returns c =
    let n = c.block_count-last.result in
    ap (λ x. block_records * (n - 1) + x) c.read_byte.ensures ∙ ap (λ n. block_records * (n - 1) + byte c.args.s.now (512 * (n - 1) + 1)) c.block_count-last.ensures
