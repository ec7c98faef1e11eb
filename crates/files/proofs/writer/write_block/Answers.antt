-- `files::write_block` meets its contract: the block of its records, written.
use mathlib.Core.Path.{ap, ◌∙◌}
use Prim.Native.Nat.{◌-◌, ◌*◌, min}
use native.Mathlib.Omega.{arith}
use Rattle.layout.specs.Sizes.{block_records}
use Rattle.refusals.proofs.Accepted.{accepted}
use Rattle.files.proofs.WrittenFile.{put_block}
use Rattle.files.proofs.writer.write_block.Goals as goal

pub overflow_cast-first : goal.overflow_cast-first
overflow_cast-first c =
    omega (arith, (accepted c.args.converter.now c.requires.0).at_most, c.requires.1)

pub returns : goal.returns
returns c =
    let a = c.args in
    put_block a.converter.now (accepted a.converter.now c.requires.0) a.k c.requires.1 a.blocks.now
    c.write.new.s c.count_in_block-count.result
    (c.count_in_block-count.ensures ∙ ap (λ n. min block_records (n - block_records * a.k)) c.count.ensures)
    c.write.ensures
