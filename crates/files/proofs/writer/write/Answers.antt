-- `files::write` meets its contract: a refusal, or the blocks.
use mathlib.Core.Path.{sym}
use native.Mathlib.Omega.{arith}
use lib.ListN.{length}
use Rattle.refusals.proofs.Accepted.{accepted}
use Rattle.files.proofs.AcceptedWrites.{write_accepted}
use Rattle.files.proofs.writer.write.Goals as goal

pub blocks_for-requires : goal.blocks_for-requires
blocks_for-requires c =
    let a = c.args in
    omega (arith, c.count.ensures, (accepted a.converter.now (write_accepted a.converter.now (length a.blocks.now) (sym c.in_ok-write_refusal.ensures)).0).at_most)
