-- `events::to_byte` meets its contract: the bits stay.
use Rattle.std.proofs.Common.{ap, ◌∙◌, w8, of_z}
use Rattle.layout.proofs.SignedBytes.{read_back, unsigned_event}
use Rattle.layout.proofs.events.to_byte.Goals as goal

pub returns : goal.returns
returns c = c.cast_unsigned.ensures ∙ ap (of_z w8) (read_back c.args.e c.ranges.e.sfits) ∙ unsigned_event c.args.e
