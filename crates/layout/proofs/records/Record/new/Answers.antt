-- `Record::new` meets its contract.
use Rattle.std.proofs.Common.{refl}
use Rattle.layout.specs.Tables.{table, table_from}
use Rattle.layout.specs.Bytes.{event_of}
use Rattle.layout.specs.Records.{named}
use Rattle.layout.proofs.records.Record.new.Goals as goal

pub returns : goal.returns
unfolding named table table_from event_of
returns c = refl
