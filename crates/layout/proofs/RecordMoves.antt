-- The moves of a state record by number.
use Rattle.std.proofs.Common.{◌≡◌, ℕ, ◌<◌, ◌≤◌, length, get_or, arith}
use lib.ListN.{get_or-eq_default}
use Rattle.model.specs.Sides.{no_move}
use Rattle.layout.specs.declared.states.StateRecord.{StateRecord}
use Rattle.layout.specs.States.{no_place, move_of, state_of}
use Rattle.layout.proofs.Tables.{length_table, entry}

module _ (q : StateRecord) where
  pub moves_length : length (state_of q).moves ≡ q.count
  unfolding state_of
  moves_length = length_table _ _

  pub move_at : (k : ℕ) → k < q.count → get_or (state_of q).moves k no_move ≡ move_of (get_or q.places k no_place)
  unfolding state_of
  move_at k h = entry _ no_move q.count k h

  pub move_past : (k : ℕ) → q.count ≤ k → get_or (state_of q).moves k no_move ≡ no_move
  move_past k h = get_or-eq_default (state_of q).moves no_move (omega (arith, moves_length))
