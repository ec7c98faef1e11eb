-- `records::read_names` meets its contract.
use Rattle.std.proofs.Common.{◌+◌, rules}
use Rattle.layout.specs.Bytes.{byte}
use Rattle.layout.proofs.Arrays.{table_from_fn}
use Rattle.layout.proofs.records.read_names.Goals as goal

pub returns : goal.returns
returns c = table_from_fn _ (λ i. byte c.args.s.now (c.args.at + i)) 0 c.from_fn.ensures.items (λ i n q h e. search rules)
