-- `ranges::fill` meets its contract.
use Rattle.std.proofs.Common.{length, replicate, ap, ◌∙◌}
use lib.ListN.{length-replicate}
use Rattle.layout.proofs.Parts.{length_part, part_range}
use Rattle.layout.proofs.Put.{put_stored}
use Rattle.layout.proofs.ranges.fill.Goals as goal

pub returns : goal.returns
returns c =
    let a = c.args in
    put_stored a.s.now a.at a.n c.fill.new.self (replicate a.n a.v)
    (c.fill.ensures.after (λ y k. k) ∙ ap (λ n. replicate n a.v) (ap length (part_range a.s.now a.at a.n) ∙ length_part a.s.now a.at a.n c.requires))
    (length-replicate a.n a.v)
