-- The bytes of the new design, where nothing is refused: as many as before; in each side's block its new states; and behind the sides' blocks everything as it was.
-- So the design that they spell has the new sides, and its formulas and rules are the old ones.
use mathlib.Core.Path.{◌≡◌, refl, sym, ap, ◌∙◌}
use mathlib.Core.List.{List, flatten}
use Prim.Native.Nat.{ℕ, ◌+◌, ◌-◌, ◌*◌, ◌/◌, ◌≤◌, ◌<◌}
use native.Mathlib.Decide.{dec_lt}
use native.Mathlib.Omega.{arith}
use lib.ListN.{length, take, drop, length-append, length-drop}
use lib.Seq.{get_or-drop, drop-drop, drop_at, drop-append-le, take-append-le}
use Rattle.model.specs.Sides.{Side, State, state, no_state}
use Rattle.layout.specs.Sizes.{side_count, block_bytes, records_in_block, state_bytes, other_blocks}
use Rattle.layout.specs.Tables.{table}
use Rattle.layout.specs.Bytes.{byte, part}
use Rattle.layout.specs.States.{state_at, state_of, state_to}
use Rattle.layout.specs.Formulas.{form_of, form_at}
use Rattle.layout.specs.Blocks.{sealed, formulas, rules, record_count, record_place}
use Rattle.layout.specs.Designs.{Whole, held, side_in, side_block, forms_in, rules_in, design, side}
use Rattle.layout.proofs.Tables.{as_table, table_same}
use Rattle.layout.proofs.DesignBytes.{side_at, state_place, held_side, resting_side}
use Rattle.layout.proofs.Parts.{part_part}
use Rattle.layout.proofs.Pieces.{length_first}
use Rattle.layout.proofs.EqualPieces.{piece_part}
use Rattle.layout.proofs.SealedBlocks.{Stands, block_room, block_holds, stands}
use Rattle.layout.proofs.StateBytes.{read_state_to}
use Rattle.refusals.proofs.WellFormed.{passed}
use Rattle.ranges.specs.Entries.{new_side}
use Rattle.ranges.specs.Ranges.{ranges_refusal, states_to, ranged_block, ranged_design}
use Rattle.ranges.proofs.Refused.{passes}
use Rattle.ranges.proofs.StatesPut.{length_states, state_part}
use Rattle.ranges.proofs.NewSides.{few_new, new_formed, new_rests, block_long}

module _ (ds es : List ℕ) (room : ℕ) (ok : ranges_refusal ds es room ≡ 0) where
  abbrev new : List ℕ
  new = ranged_design ds es

  -- the bytes of the sides' blocks, and the blocks themselves
  abbrev ahead : ℕ
  ahead = block_bytes * held ds

  abbrev side_bytes : List ℕ
  side_bytes = flatten (table (held ds) (ranged_block ds es))

  pub old_whole : Whole ds
  old_whole = (passed ds (passes ds es room ok).designed).whole

  -- ---- lengths
  pub new_records : (i : ℕ) → i < side_count → length (states_to (new_side ds es i)) ≤ 506
  new_records i h = omega (arith, length_states (new_side ds es i), few_new ds es room ok i h)

  length_block : (i : ℕ) → i < side_count → length (ranged_block ds es i) ≡ block_bytes
  length_block = block_long ds es (passes ds es room ok).fitting

  held_sized : (k : ℕ) → k < held ds → length (ranged_block ds es k) ≡ block_bytes
  held_sized k h = length_block k (omega (arith, old_whole.at_most))

  pub length_sides : length side_bytes ≡ ahead
  length_sides = length_first (ranged_block ds es) block_bytes (held ds) held_sized

  pub same_length : length (ranged_design ds es) ≡ length ds
  unfolding ranged_design
  same_length = length-append side_bytes (drop ahead ds) ∙ omega (arith, length_sides, length-drop ahead ds, old_whole.long)

  pub same_held : held (ranged_design ds es) ≡ held ds
  same_held = ap (λ n. n / block_bytes - other_blocks) same_length

  -- ---- behind the sides' blocks
  same_behind : drop (block_bytes * held ds) (ranged_design ds es) ≡ drop (block_bytes * held ds) ds
  unfolding ranged_design
  same_behind = drop_at side_bytes (drop ahead ds) ahead length_sides

  pub same_byte : (p : ℕ) → block_bytes * held ds ≤ p → byte (ranged_design ds es) p ≡ byte ds p
  same_byte p h =
      let e : p ≡ ahead + (p - ahead) = omega arith in
      ap (byte new) e ∙ sym (get_or-drop ahead new (p - ahead) 0) ∙ ap (λ l. byte l (p - ahead)) same_behind ∙ get_or-drop ahead ds (p - ahead) 0 ∙ ap (byte ds) (sym e)

  pub same_part : (p n : ℕ) → block_bytes * held ds ≤ p → part (ranged_design ds es) p n ≡ part ds p n
  same_part p n h =
      let e : p ≡ ahead + (p - ahead) = omega arith in
      ap (λ q. part new q n) e
      ∙ ap (take n) (sym (drop-drop (p - ahead) ahead new) ∙ ap (drop (p - ahead)) same_behind ∙ drop-drop (p - ahead) ahead ds)
      ∙ ap (λ q. part ds q n) (sym e)

  -- ---- block i
  module _ (i : ℕ) (l : i < held ds) where
    abbrev S : Side
    S = new_side ds es i

    inside : i < side_count
    inside = omega (arith, old_whole.at_most)

    pub new_block : part (ranged_design ds es) (block_bytes * i) block_bytes ≡ ranged_block ds es i
    unfolding ranged_design
    new_block =
        ap (take block_bytes) (drop-append-le (block_bytes * i) side_bytes (drop ahead ds) (omega (arith, length_sides)))
        ∙ take-append-le block_bytes (drop (block_bytes * i) side_bytes) (drop ahead ds) (omega (arith, length_sides, length-drop (block_bytes * i) side_bytes))
        ∙ piece_part (ranged_block ds es) block_bytes (held ds) held_sized i l

    -- it is sealed
    sealed_here : part (ranged_design ds es) (block_bytes * i) block_bytes ≡ sealed (side_block i).kind (length (new_side ds es i)) 0 (states_to (new_side ds es i))
    unfolding ranged_block
    sealed_here = new_block

    pub new_stands : Stands (side_block i).kind (length (new_side ds es i)) 0 (states_to (new_side ds es i)) (ranged_design ds es) (block_bytes * i)
    new_stands = stands (side_block i).kind (length S) 0 (states_to S) (new_records i inside) new (block_bytes * i) sealed_here

    pub new_room : block_bytes * i + block_bytes ≤ length (ranged_design ds es)
    new_room = block_room (side_block i).kind (length S) 0 (states_to S) (new_records i inside) new (block_bytes * i) sealed_here

    -- the bytes of state k
    pub new_state : (k : ℕ) → k < length (new_side ds es i)
        → part (ranged_design ds es) (block_bytes * i + records_in_block + state_bytes * k) state_bytes ≡ state_to (state (new_side ds es i) k)
    new_state k h =
        let r = new_room in
        let e = length_states S in
        let f = new_records i inside in
        sym (part_part new (block_bytes * i + records_in_block) (length (states_to S)) (state_bytes * k) state_bytes (omega arith) (omega arith))
        ∙ ap (λ l. part l (state_bytes * k) state_bytes) (block_holds (side_block i).kind (length S) 0 (states_to S) f new (block_bytes * i) sealed_here)
        ∙ state_part S k h

    -- and all states, read again
    new_side_in : side_in (ranged_design ds es) (side_block i) ≡ new_side ds es i
    unfolding side_in
    new_side_in =
        ap (λ c. table c read) (ap (λ at. byte new (at + 1)) (side_at i inside) ∙ new_stands.count_right)
        ∙ table_same read (state S) (length S) each
        ∙ sym (as_table no_state (length S) S refl)
      where
        read : ℕ → State
        read k = state_of (state_at new (record_place (side_block i) k))

        each : (k : ℕ) → k < length S → read k ≡ state S k
        each k h =
            let w = (new_formed ds es room ok i inside).each k h in
            ap (λ at. state_of (state_at new at)) (state_place i k inside)
            ∙ read_state_to (state S k) new (block_bytes * i + records_in_block + state_bytes * k) w.at_most_eight w.in_range (new_state k h)

  -- ---- the design that they spell
  pub new_sides : (i : ℕ) → i < side_count → side (design (ranged_design ds es)) i ≡ new_side ds es i
  new_sides i h =
      let e = same_held in
      elim (dec_lt i (held ds)) [
        | yes l ↦ held_side new i h (omega arith) ∙ new_side_in i l
        | no n ↦ resting_side new i h (omega arith) ∙ sym (new_rests ds es room ok i h (omega arith))
      ]

  -- formulas and rules stand behind the sides' blocks
  pub same_forms : (design (ranged_design ds es)).forms ≡ (design ds).forms
  unfolding design forms_in form_at
  same_forms =
      ap (λ n. table (record_count new (formulas n)) (λ k. form_at new (record_place (formulas n) k))) same_held
      ∙ ap (λ c. table c (λ k. form_at new (record_place (formulas (held ds)) k))) (same_byte (ahead + 1) (omega arith))
      ∙ table_same (λ k. form_at new (place k)) (λ k. form_at ds (place k)) (record_count ds (formulas (held ds)))
      (λ k h. same_form (same_byte (place k) (omega arith)) (same_byte (place k + 1) (omega arith)) (same_byte (place k + 2) (omega arith)))
    where
      place : ℕ → ℕ
      place k = record_place (formulas (held ds)) k

      same_form : {x x' y y' z z' : ℕ} → x ≡ x' → y ≡ y' → z ≡ z' → form_of x y z ≡ form_of x' y' z'
      same_form p q r = cc

  pub same_rules : (design (ranged_design ds es)).rules ≡ (design ds).rules
  unfolding design rules_in
  same_rules =
      ap (λ n. table (record_count new (rules n)) (λ k. byte new (record_place (rules n) k))) same_held
      ∙ ap (λ c. table c (λ k. byte new (place k))) (same_byte (block_bytes * (held ds + 1) + 1) (omega arith))
      ∙ table_same (λ k. byte new (place k)) (λ k. byte ds (place k)) (record_count ds (rules (held ds))) (λ k h. same_byte (place k) (omega arith))
    where
      place : ℕ → ℕ
      place k = record_place (rules (held ds)) k
