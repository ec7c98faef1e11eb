-- What stands behind a side's block changes nothing of it: it passes the same tests, and spells the same side.
use mathlib.Core.Path.{◌≡◌, sym, ap, ap₂, ◌∙◌}
use mathlib.Core.Bool.{true, ◌&&◌}
use mathlib.Core.List.{List, ◌∷◌, ◌++◌}
use Prim.Native.Nat.{ℕ, zero, suc, ◌+◌, ◌-◌, ◌*◌, ◌≤◌, ◌<◌}
use native.Mathlib.Decide.{dec_lt}
use native.Mathlib.Omega.{arith}
use borrow.Author.Tests.{leb-true}
use lib.Dec.{eqb, leb}
use lib.ListN.{length, take, drop, length-drop, get_or-append}
use lib.Seq.{drop-append-le, take-append-le}
use Rattle.layout.specs.Sizes.{side_count, most_states, state_bytes, place_count, places_at, move_bytes, count_at, gap_at, block_bytes, records_in_block, check_in_block, first_in_block, count_in_block}
use Rattle.layout.specs.Tables.{table, every}
use Rattle.layout.specs.Bytes.{byte, word, part, check, event_of, all_zero}
use Rattle.layout.specs.States.{place_at, state_at, state_of}
use Rattle.layout.specs.Unused.{state_record, places_behind, unused}
use Rattle.layout.specs.Blocks.{Block, record_count, record_place, behind}
use Rattle.layout.specs.Designs.{side_in, side_block}
use Rattle.layout.proofs.Tables.{and_left, and_right, and_true, every_at, every_true, table_same}
use Rattle.refusals.specs.Refusals.{check_right, header_right, count_right, unused_right}
use Rattle.typed.proofs.Standing.{Passes}

-- the block of a side, wherever it stands and whatever its kind
abbrev of_side : ℕ → ℕ → Block
of_side at kind = record { at = at; kind = kind; first = 0; holds = state_record; least = 1; most = most_states }

module _ (ss zs : List ℕ) where
  -- the bytes that stand ahead
  same_byte : (p : ℕ) → p < length ss → byte (ss ++ zs) p ≡ byte ss p
  same_byte p h = get_or-append ss zs 0 p h

  -- two of them
  same_word : (p : ℕ) → p + 1 < length ss → word (ss ++ zs) p ≡ word ss p
  same_word p h = ap₂ (λ x y. x + 256 * y) (same_byte p (omega arith)) (same_byte (p + 1) h)

  -- a part of them
  same_part : (p k : ℕ) → p + k ≤ length ss → part (ss ++ zs) p k ≡ part ss p k
  same_part p k h = ap (take k) (drop-append-le p ss zs (omega arith)) ∙ take-append-le k (drop p ss) zs (omega (arith, length-drop p ss))

  -- ---- a state record
  module _ (at : ℕ) (room : at + state_bytes ≤ length ss) where
    -- what it spells
    same_state : state_at (ss ++ zs) at ≡ state_at ss at
    unfolding state_at place_at
    same_state =
        let l = same_word at (omega arith) in
        let c = same_byte (at + count_at) (omega arith) in
        let p = table_same (place_at (ss ++ zs) at) (place_at ss at) place_count (λ k h.
        let e = same_byte (at + places_at + move_bytes * k) (omega arith) in
        let t = same_byte (at + places_at + move_bytes * k + 1) (omega arith) in
        λ i. record { event = event_of (e i); target = t i }) in
        λ i. record { label = l i; count = c i; places = p i }

    -- the places behind the first n, of which there are none where n is over 8
    same_places : (n : ℕ) → places_behind n move_bytes (ss ++ zs) at ≡ places_behind n move_bytes ss at
    same_places n =
        elim (dec_lt place_count n) [
          | yes h ↦ let z : move_bytes * (place_count - n) ≡ 0 = omega arith in ap (λ k. part (ss ++ zs) (at + places_at + move_bytes * n) k) z ∙ sym (ap (λ k. part ss (at + places_at + move_bytes * n) k) z)
          | no h ↦ same_part (at + places_at + move_bytes * n) (move_bytes * (place_count - n)) (omega arith)
        ]

    -- and what it leaves unused
    same_unused : unused state_record (ss ++ zs) at ≡ unused state_record ss at
    unfolding unused
    same_unused =
        ap₂ ◌∷◌ (same_byte (at + gap_at) (omega arith))
        (ap (λ n. places_behind n move_bytes (ss ++ zs) at) (same_byte (at + count_at) (omega arith)) ∙ same_places (byte ss (at + count_at)))

  -- ---- a side's block
  module _ (at kind : ℕ) (room : at + block_bytes ≤ length ss) where
    -- the block
    abbrev b : Block
    b = of_side at kind

    -- its count
    same_count : record_count (ss ++ zs) b ≡ record_count ss b
    same_count = same_byte (at + count_in_block) (omega arith)

    -- 2
    same_check : check_right (ss ++ zs) b ≡ check_right ss b
    unfolding check_right
    same_check = ap₂ (λ x y. eqb x (check y)) (same_word (at + check_in_block) (omega arith)) (same_part at check_in_block (omega arith))

    -- 3
    same_header : header_right (ss ++ zs) b ≡ header_right ss b
    unfolding header_right
    same_header = ap₂ (λ x y. eqb x kind && eqb y 0) (same_byte at (omega arith)) (same_word (at + first_in_block) (omega arith))

    -- 4
    same_limits : count_right (ss ++ zs) b ≡ count_right ss b
    unfolding count_right
    same_limits = ap (λ c. leb 1 c && leb c most_states) same_count

    module _ (counted : count_right ss b ≡ true) where
      -- its records stand in it
      few : record_count ss b ≤ most_states
      unfolding count_right
      few = leb-true (record_count ss b) most_states (and_right (leb 1 (record_count ss b)) (leb (record_count ss b) most_states) counted)

      -- 8
      kept_unused : unused_right ss b ≡ true → unused_right (ss ++ zs) b ≡ true
      unfolding unused_right
      kept_unused e =
          let c = record_count ss b in
          let f = few in
          let records = every c (λ k. all_zero (unused state_record ss (record_place b k))) in
          ap (λ m. every m (λ k. all_zero (unused state_record (ss ++ zs) (record_place b k))) && all_zero (part (ss ++ zs) (record_place b m) (check_in_block - records_in_block - state_bytes * m))) same_count
          ∙ and_true (every c (λ k. all_zero (unused state_record (ss ++ zs) (record_place b k)))) (all_zero (part (ss ++ zs) (record_place b c) (check_in_block - records_in_block - state_bytes * c)))
          (every_true (λ k. all_zero (unused state_record (ss ++ zs) (record_place b k))) c (λ k h.
          ap all_zero (same_unused (record_place b k) (omega arith))
          ∙ every_at (λ k. all_zero (unused state_record ss (record_place b k))) c (and_left records (all_zero (behind ss b)) e) k h))
          (ap all_zero (same_part (record_place b c) (check_in_block - records_in_block - state_bytes * c) (omega arith)) ∙ and_right records (all_zero (behind ss b)) e)

      -- the side that it spells
      kept_side : side_in (ss ++ zs) b ≡ side_in ss b
      unfolding side_in
      kept_side =
          let f = few in
          ap (λ c. table c (λ k. state_of (state_at (ss ++ zs) (record_place b k)))) same_count
          ∙ table_same (λ k. state_of (state_at (ss ++ zs) (record_place b k))) (λ k. state_of (state_at ss (record_place b k))) (record_count ss b)
          (λ k h. ap state_of (same_state (record_place b k) (omega arith)))

    -- all four tests
    kept : Passes ss b → Passes (ss ++ zs) b
    kept p =
        record {
          checked = same_check ∙ p.checked;
          headed = same_header ∙ p.headed;
          counted = same_limits ∙ p.counted;
          clean = kept_unused p.counted p.clean;
        }

  -- the tests of a side's block, by number
  pub ahead_passes : (i : ℕ) → i < side_count → block_bytes * (i + 1) ≤ length ss → Passes ss (side_block i) → Passes (ss ++ zs) (side_block i)
  ahead_passes zero h l p = kept 0 1 (omega arith) p
  ahead_passes (suc zero) h l p = kept block_bytes 2 (omega arith) p
  ahead_passes (suc (suc zero)) h l p = kept (2 * block_bytes) 6 (omega arith) p
  ahead_passes (suc (suc (suc i))) h l p = absurd (omega arith)

  -- the side that it spells, by number
  pub ahead_side : (i : ℕ) → i < side_count → block_bytes * (i + 1) ≤ length ss → Passes ss (side_block i) → side_in (ss ++ zs) (side_block i) ≡ side_in ss (side_block i)
  ahead_side zero h l p = kept_side 0 1 (omega arith) p.counted
  ahead_side (suc zero) h l p = kept_side block_bytes 2 (omega arith) p.counted
  ahead_side (suc (suc zero)) h l p = kept_side (2 * block_bytes) 6 (omega arith) p.counted
  ahead_side (suc (suc (suc i))) h l p = absurd (omega arith)
