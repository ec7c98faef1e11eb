-- `states::read_place` meets its contract.
use Rattle.layout.specs.States.{place_at}
use Rattle.layout.proofs.SignedBytes.{read_back}
use Rattle.layout.proofs.states.read_place.Goals as goal

pub returns : goal.returns
unfolding place_at
returns c = cc (read_back c.read_event.result c.read_event.type_inv)
