-- `records::read_events` meets its contract.
use Rattle.std.proofs.Common.{◌+◌, rules}
use Rattle.model.specs.Events.{tick}
use Rattle.layout.specs.Bytes.{byte, event_of}
use Rattle.layout.proofs.Arrays.{table_from_fn}
use Rattle.layout.proofs.records.read_events.Goals as goal

pub returns : goal.returns
returns c = table_from_fn _ (λ i. event_of (byte c.args.s.now (c.args.at + i))) tick c.from_fn.ensures.items (λ i n q h e. search rules)
