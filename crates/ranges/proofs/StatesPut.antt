-- The bytes of a side's states, one behind the other: how many, those of state k, one state in the place of another, and more states behind.
use mathlib.Core.Path.{◌≡◌, refl, sym, ap, ◌∙◌}
use mathlib.Core.List.{List, [], ◌∷◌, ◌++◌, flatten, append_assoc, append-nil}
use Prim.Native.Nat.{ℕ, zero, suc, ◌+◌, ◌*◌, ◌≤◌, ◌<◌}
use native.Mathlib.Nat.{not-suc-le-zero}
use native.Mathlib.Omega.{arith}
use lib.ListN.{length, set, length-set}
use lib.Seq.{drop_at}
use Rattle.model.specs.Sides.{State, Side, state, no_state}
use Rattle.model.specs.Ranges.{Range, last_count, counted, counts, replaced}
use Rattle.model.proofs.RangedSides.{length_counts}
use Rattle.layout.specs.Sizes.{state_bytes}
use Rattle.layout.specs.Tables.{table}
use Rattle.layout.specs.Bytes.{part, put}
use Rattle.layout.specs.States.{state_to}
use Rattle.layout.proofs.Tables.{table_map}
use Rattle.layout.proofs.Pieces.{length_pieces}
use Rattle.layout.proofs.EqualPieces.{piece_part}
use Rattle.layout.proofs.Put.{put_behind, put_later, put_within}
use Rattle.layout.proofs.StateBytes.{length_state}
use Rattle.ranges.specs.Ranges.{states_to}

-- ---- the bytes of a side's states
-- one piece for each
pub states_table : (S : Side) → states_to S ≡ flatten (table (length S) (λ k. state_to (state S k)))
unfolding states_to
states_table S = ap flatten (sym (table_map state_to no_state S (length S) refl))

pub length_states : (S : Side) → length (states_to S) ≡ state_bytes * length S
length_states S = ap length (states_table S) ∙ length_pieces (λ k. state_to (state S k)) state_bytes (λ k. length_state (state S k)) (length S)

pub state_part : (S : Side) (k : ℕ) → k < length S → part (states_to S) (state_bytes * k) state_bytes ≡ state_to (state S k)
state_part S k h =
    ap (λ l. part l (state_bytes * k) state_bytes) (states_table S)
    ∙ piece_part (λ j. state_to (state S j)) state_bytes (length S) (λ j l. length_state (state S j)) k h

-- ---- states behind others
states_append : (A B : Side) → states_to (A ++ B) ≡ states_to A ++ states_to B
unfolding states_to flatten
states_append [] B = refl
states_append (q ∷ A) B = ap (λ l. state_to q ++ l) (states_append A B) ∙ sym (append_assoc (state_to q) (states_to A) (states_to B))

state_alone : (q : State) → states_to (q ∷ []) ≡ state_to q
unfolding states_to flatten
state_alone q = append-nil (state_to q)

-- one more
pub states_more : (bs : List ℕ) (at n : ℕ) (S : Side) (q : State) → length S ≡ n → at + state_bytes * (n + 1) ≤ length bs
    → put (put bs at (states_to S)) (at + state_bytes * n) (state_to q) ≡ put bs at (states_to (S ++ (q ∷ [])))
states_more bs at n S q e room =
    put_behind (states_to S) (state_to q) bs at (state_bytes * n) (length_states S ∙ ap (λ m. state_bytes * m) e) (omega (arith, length_state q))
    ∙ ap (put bs at) (sym (states_append S (q ∷ []) ∙ ap (λ l. states_to S ++ l) (state_alone q)))

-- one in the place of another
states_set : (S : Side) (k : ℕ) (q : State) → k < length S → put (states_to S) (state_bytes * k) (state_to q) ≡ states_to (set S k q)
unfolding states_to flatten put
states_set [] k q h = absurd (not-suc-le-zero h)
states_set (p ∷ S) zero q h = ap (λ l. state_to q ++ l) (drop_at (state_to p) (states_to S) (0 + length (state_to q)) (omega (arith, length_state p, length_state q)))
states_set (p ∷ S) (suc k) q h =
    let next : state_bytes * suc k ≡ state_bytes + state_bytes * k = omega arith in
    ap (λ at. put (state_to p ++ states_to S) at (state_to q)) next
    ∙ put_later (state_to p) (states_to S) (state_to q) state_bytes (state_bytes * k) (length_state p)
    ∙ ap (λ l. state_to p ++ l) (states_set S k q (omega arith))

-- a state replaced
module _ (bs : List ℕ) (S : Side) (r : Range) (there : r.state < length S) (room : state_bytes * (length S + last_count r) ≤ length bs) where
  pub replaced_put : put (put (put bs 0 (states_to S)) (state_bytes * r.state) (state_to (counted r (length S) (state S r.state) 0)))
      (state_bytes * length S) (states_to (counts r (length S) (state S r.state) 1 (last_count r)))
      ≡ put bs 0 (states_to (replaced S r))
  unfolding replaced
  replaced_put =
      let first = counted r (length S) (state S r.state) 0 in
      let later = counts r (length S) (state S r.state) 1 (last_count r) in
      let set_first = set S r.state first in
      let long : length (states_to set_first) ≡ state_bytes * length S = length_states set_first ∙ ap (λ n. state_bytes * n) (length-set S r.state first) in
      ap (λ l. put l (state_bytes * length S) (states_to later))
      (put_within (states_to S) (state_to first) bs (state_bytes * r.state) (omega (arith, length_state first, length_states S))
      ∙ ap (put bs 0) (states_set S r.state first there))
      ∙ ap (λ n. put (put bs 0 (states_to set_first)) n (states_to later)) (omega arith)
      ∙ put_behind (states_to set_first) (states_to later) bs 0 (state_bytes * length S) long (omega (arith, length_states later, length_counts r (length S) (state S r.state) 1 (last_count r)))
      ∙ ap (put bs 0) (sym (states_append set_first later))
