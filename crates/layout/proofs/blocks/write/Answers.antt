-- `blocks::write` meets its contract: header, records, zeros and check.
use Rattle.std.proofs.Common.{arith}
use Rattle.layout.specs.Bytes.{part}
use Rattle.layout.proofs.Parts.{length_part}
use Rattle.layout.proofs.Sealed.{block_put}
use Rattle.layout.proofs.blocks.write.Goals as goal

pub returns : goal.returns
returns c =
    let a = c.args in
    block_put a.kind a.count a.first (part a.records.now a.from a.n) (omega (arith, length_part a.records.now a.from a.n c.requires.1, c.requires.2))
    a.s.now a.at c.requires.0 a.n c.write_header.new.s c.copy.new.dst c.fill.new.s c.seal.new.s
    (length_part a.records.now a.from a.n c.requires.1)
    c.write_header.ensures c.copy.ensures c.fill.ensures c.seal.ensures
