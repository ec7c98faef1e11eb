-- `states::used_place` meets its contract.
use Rattle.std.proofs.Common.{sym, arith}
use Rattle.layout.proofs.RecordMoves.{move_at, move_past}
use Rattle.layout.proofs.states.used_place.Goals as goal

pub returns-then-k-from : goal.returns-then-k-from
returns-then-k-from c = sym (move_at c.args.q c.args.k (omega arith))

pub returns-else-k-from : goal.returns-else-k-from
returns-else-k-from c = sym (move_past c.args.q c.args.k (omega arith))
