-- `states::write_place` meets its contract: two stores, one behind the other.
use Rattle.std.proofs.Common.{◌+◌, set, ap, ◌∙◌, arith}
use Rattle.layout.specs.Bytes.{event_byte}
use Rattle.layout.proofs.SignedBytes.{read_back}
use Rattle.layout.proofs.Put.{put_pair}
use Rattle.layout.proofs.states.write_place.Goals as goal

pub returns : goal.returns
returns c =
    let a = c.args in
    ap (λ b. set (set a.s.now a.at b) (a.at + 1) a.p.target) (c.to_byte.ensures ∙ ap event_byte (read_back a.p.event c.struct_told-1.given.0.1))
    ∙ put_pair a.s.now a.at (event_byte a.p.event) a.p.target (omega arith)
