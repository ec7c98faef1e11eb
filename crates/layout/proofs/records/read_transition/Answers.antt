-- `records::read_transition` meets its contract.
use Rattle.layout.specs.Records.{transition_at}
use Rattle.layout.proofs.records.read_transition.Goals as goal

pub returns : goal.returns
unfolding transition_at
returns c = cc
