-- `events::to_event` meets its contract: the bits stay.
use Rattle.std.proofs.Common.{◌∙◌}
use Rattle.layout.proofs.SignedBytes.{read_back, signed_byte}
use Rattle.layout.proofs.events.to_event.Goals as goal

pub returns : goal.returns
returns c = read_back c.cast_signed.result c.cast_signed.type_inv ∙ c.cast_signed.ensures ∙ signed_byte c.args.b
