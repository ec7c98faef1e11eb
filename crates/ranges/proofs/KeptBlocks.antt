-- A side for which the list has no entry keeps its block, byte by byte; so with no entry the new design is the old one.
use mathlib.Core.Path.{◌≡◌, refl, sym, ap, subst⁻¹, ◌∙◌}
use mathlib.Core.Bool.{Bool, true, ◌&&◌}
use mathlib.Core.List.{List, [], ◌++◌, flatten}
use Prim.Native.Nat.{ℕ, ◌+◌, ◌*◌, ◌≤◌, ◌<◌}
use native.Mathlib.Omega.{arith}
use borrow.Author.Tests.{eqb-true}
use lib.Dec.{eqb}
use lib.ListN.{length, take, drop, take-append-drop}
use lib.Seq.{drop-drop}
use Rattle.model.specs.Sides.{Side, state}
use Rattle.model.specs.Ranges.{ranged}
use Rattle.model.specs.Judged.{all}
use Rattle.model.proofs.Bools.{T_true}
use Rattle.layout.specs.Sizes.{side_count, block_bytes, state_bytes, records_in_block, check_in_block, first_in_block, count_at, place_count}
use Rattle.layout.specs.Tables.{table, table_from}
use Rattle.layout.specs.Bytes.{byte, word, part, check, all_zero}
use Rattle.layout.specs.States.{state_at, state_of, state_to}
use Rattle.layout.specs.Unused.{state_record, unused}
use Rattle.layout.specs.Blocks.{Block, sealed, design_blocks}
use Rattle.layout.specs.Designs.{Whole, held, side_block, design, side}
use Rattle.layout.proofs.Tables.{and_left, and_right, every_at}
use Rattle.layout.proofs.Parts.{byte_is}
use Rattle.layout.proofs.DesignBytes.{side_at, state_place, side_length, held_state, stored_state_is}
use Rattle.layout.proofs.EqualPieces.{front_pieces}
use Rattle.layout.proofs.RecordMoves.{moves_length}
use Rattle.layout.proofs.StateBytes.{state_to_read}
use Rattle.layout.proofs.SealedBlocks.{Stands}
use Rattle.layout.proofs.Resealed.{resealed}
use Rattle.refusals.specs.Refusals.{check_right, header_right, unused_right, design_refusal}
use Rattle.refusals.proofs.DesignBlocks.{side_first, side_passes}
use Rattle.refusals.proofs.DesignUnused.{records_zero, behind_zero, side_unused}
use Rattle.refusals.proofs.WellFormed.{passed, side_formed}
use Rattle.ranges.specs.Entries.{ranges_to, side_ranges, new_side}
use Rattle.ranges.specs.Ranges.{states_to, ranged_block, ranged_design}
use Rattle.ranges.proofs.StatesPut.{states_table, length_states}

-- with no range a side stays as it is
no_range : (ds es : List ℕ) (i : ℕ) → side_ranges es i ≡ [] → new_side ds es i ≡ side (design ds) i
unfolding ranged
no_range ds es i none = ap (ranged (side (design ds) i)) none

-- no entry gives no range
none_listed : (i : ℕ) → side_ranges [] i ≡ []
unfolding ranges_to table table_from flatten
none_listed i = refl

module _ (ds : List ℕ) (bytes : (i : ℕ) → byte ds i < 256) (accepted : design_refusal ds ≡ 0) where
  whole : Whole ds
  whole = (passed ds accepted).whole

  -- ---- the block of side i
  module _ (i : ℕ) (l : i < held ds) where
    abbrev S : Side
    S = side (design ds) i

    abbrev at : ℕ
    at = block_bytes * i

    inside : i < side_count
    inside = omega (arith, whole.at_most)

    few : length S ≤ 16
    few = (side_formed ds accepted i inside).at_most_sixteen

    room : at + block_bytes ≤ length ds
    room = omega (arith, whole.long)

    -- a test of every block passes here
    block_test : (p : Block → Bool) → all p (design_blocks (held ds)) ≡ true → p (side_block i) ≡ true
    block_test p e = side_passes (held ds) whole.at_most p e i l

    -- 8, of its states and behind them
    zeros : (records_zero ds state_record at (length S) && behind_zero ds at (state_bytes * length S)) ≡ true
    zeros = sym (side_unused ds i inside l) ∙ block_test (unused_right ds) (T_true (all (unused_right ds) (design_blocks (held ds))) (passed ds accepted).unused)

    -- ---- state k
    module _ (k : ℕ) (h : k < length S) where
      abbrev place : ℕ
      place = at + records_in_block + state_bytes * k

      read : state_of (state_at ds place) ≡ state S k
      read = ap (λ p. state_of (state_at ds p)) (sym (state_place i k inside)) ∙ ap state_of (sym (held_state ds i k l)) ∙ stored_state_is ds i k inside h

      few_moves : byte ds (place + count_at) ≤ place_count
      unfolding state_at
      few_moves = omega (arith, moves_length (state_at ds place), ap (λ q. length q.moves) read, ((side_formed ds accepted i inside).each k h).at_most_eight)

      state_same : state_to (state S k) ≡ part ds place state_bytes
      state_same =
          ap state_to (sym read)
          ∙ state_to_read ds place bytes (omega (arith, room, few)) few_moves
          (every_at (λ j. all_zero (unused state_record ds (at + records_in_block + state_bytes * j))) (length S)
          (and_left (records_zero ds state_record at (length S)) (behind_zero ds at (state_bytes * length S)) zeros) k h)

    -- all its states
    states_same : states_to S ≡ part ds (at + records_in_block) (state_bytes * length S)
    states_same =
        states_table S
        ∙ front_pieces (λ k. state_to (state S k)) state_bytes (drop (at + records_in_block) ds) (length S)
        (λ k h. state_same k h ∙ ap (take state_bytes) (sym (drop-drop (state_bytes * k) (at + records_in_block) ds)))

    stands : Stands (side_block i).kind (length S) 0 (states_to S) ds at
    unfolding check_right header_right
    stands =
        let b = side_block i in
        let e = side_at i inside in
        let n = length_states S in
        let p = passed ds accepted in
        let head = block_test (header_right ds) (T_true (all (header_right ds) (design_blocks (held ds))) p.headers) in
        let check_test = block_test (check_right ds) (T_true (all (check_right ds) (design_blocks (held ds))) p.checks) in
        record {
          kind_right = ap (byte ds) (sym e)
              ∙ eqb-true (byte ds b.at) b.kind (and_left (eqb (byte ds b.at) b.kind) (eqb (word ds (b.at + first_in_block)) b.first) head);
          count_right = ap (λ a. byte ds (a + 1)) (sym e) ∙ sym (side_length ds i inside l);
          first_right = ap (λ a. word ds (a + first_in_block)) (sym e)
              ∙ eqb-true (word ds (b.at + first_in_block)) b.first (and_right (eqb (byte ds b.at) b.kind) (eqb (word ds (b.at + first_in_block)) b.first) head)
              ∙ side_first i inside;
          records_right = λ j h.
              let z : at + (records_in_block + j) ≡ at + records_in_block + j = omega arith in
              ap (byte ds) z ∙ byte_is ds (at + records_in_block) (state_bytes * length S) (states_to S) (sym states_same) j (omega arith);
          zeros_behind = subst⁻¹ (λ m. behind_zero ds at m ≡ true) n (and_right (records_zero ds state_record at (length S)) (behind_zero ds at (state_bytes * length S)) zeros);
          check_right = ap (λ a. word ds (a + check_in_block)) (sym e)
              ∙ eqb-true (word ds (b.at + check_in_block)) (check (part ds b.at check_in_block)) check_test
              ∙ ap (λ a. check (part ds a check_in_block)) e;
        }

    pub block_kept : (es : List ℕ) → side_ranges es i ≡ [] → ranged_block ds es i ≡ part ds (block_bytes * i) block_bytes
    unfolding ranged_block
    block_kept es none =
        ap (λ (X : Side). sealed (side_block i).kind (length X) 0 (states_to X)) (no_range ds es i none)
        ∙ resealed (side_block i).kind (length S) 0 (states_to S) (omega (arith, length_states S, few)) ds bytes at room stands

-- ---- all blocks
pub empty_copies : (ds : List ℕ) → ((i : ℕ) → byte ds i < 256) → design_refusal ds ≡ 0 → ranged_design ds [] ≡ ds
unfolding ranged_design
empty_copies ds bytes accepted =
    let ahead = block_bytes * held ds in
    ap (λ l. l ++ drop ahead ds) (front_pieces (ranged_block ds []) block_bytes ds (held ds) (λ i l. block_kept ds bytes accepted i l [] (none_listed i))) ∙ take-append-drop ahead ds
