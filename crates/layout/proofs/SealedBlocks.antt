-- A block of any kind that stands in a list of bytes: its header, its records, zeros and its check; and so does one that was made.
use Rattle.std.proofs.Common.{◌≡◌, ℕ, ◌+◌, ◌-◌, ◌<◌, ◌≤◌, true, List, length, take, drop, sym, refl, ap, ◌∙◌, arith, length-drop, length-take, take-take}
use Rattle.layout.specs.Sizes.{block_bytes, records_in_block, check_in_block, first_in_block, count_in_block}
use Rattle.layout.specs.Bytes.{byte, word, part, check, all_zero}
use Rattle.layout.specs.Blocks.{unsealed, sealed}
use Rattle.layout.proofs.Parts.{byte_is, part_is, zeros}
use Rattle.layout.proofs.Sealed.{length_sealed}
use Rattle.layout.proofs.SealedBytes.{unsealed_kind, unsealed_count, unsealed_low, unsealed_high, unsealed_record, unsealed_zero, take_sealed, sealed_byte, sealed_low, sealed_high}

-- the block that stands at `at`, with the records rs
pub record Stands (kind count first : ℕ) (rs bs : List ℕ) (at : ℕ) : Type 0 where
  pub kind_right : byte bs at ≡ kind
  pub count_right : byte bs (at + count_in_block) ≡ count
  pub first_right : word bs (at + first_in_block) ≡ first
  pub records_right : (i : ℕ) → i < length rs → byte bs (at + (records_in_block + i)) ≡ byte rs i
  pub zeros_behind : all_zero (part bs (at + records_in_block + length rs) (check_in_block - records_in_block - length rs)) ≡ true
  pub check_right : word bs (at + check_in_block) ≡ check (part bs at check_in_block)

module _ (kind count first : ℕ) (rs : List ℕ) (fits : length rs ≤ 506) (bs : List ℕ) (at : ℕ) (here : part bs at block_bytes ≡ sealed kind count first rs) where
  abbrev body : List ℕ
  body = unsealed kind count first rs

  pub block_room : at + block_bytes ≤ length bs
  block_room =
      omega (arith, ap length here, length_sealed kind count first rs fits, length-take block_bytes (drop at bs), length-drop at bs)

  at_byte : (i : ℕ) → i < block_bytes → byte bs (at + i) ≡ byte (sealed kind count first rs) i
  at_byte = byte_is bs at block_bytes (sealed kind count first rs) here

  -- before its check
  at_unsealed : (i : ℕ) → i < check_in_block → byte bs (at + i) ≡ byte body i
  at_unsealed i h = at_byte i (omega arith) ∙ sealed_byte kind count first rs fits i h

  part_unsealed : part bs at check_in_block ≡ body
  part_unsealed = sym (take-take check_in_block block_bytes (drop at bs) (omega arith)) ∙ ap (take check_in_block) here ∙ take_sealed kind count first rs fits

  -- ---- its header
  block_kind : byte bs at ≡ kind
  block_kind =
      let z : at ≡ at + 0 = omega arith in
      ap (byte bs) z ∙ at_unsealed 0 (omega arith) ∙ unsealed_kind kind count first rs fits

  block_count : byte bs (at + 1) ≡ count
  block_count = at_unsealed 1 (omega arith) ∙ unsealed_count kind count first rs fits

  block_first : word bs (at + 2) ≡ first
  block_first =
      let z : at + 2 + 1 ≡ at + 3 = omega arith in
      let x = at_unsealed 2 (omega arith) ∙ unsealed_low kind count first rs fits in
      let y = ap (byte bs) z ∙ at_unsealed 3 (omega arith) ∙ unsealed_high kind count first rs fits in
      omega arith

  -- ---- its records, and zeros behind them
  block_record : (i : ℕ) → i < length rs → byte bs (at + (records_in_block + i)) ≡ byte rs i
  block_record i h = at_unsealed (records_in_block + i) (omega arith) ∙ unsealed_record kind count first rs fits i h

  pub block_holds : part bs (at + records_in_block) (length rs) ≡ rs
  block_holds =
      let r = block_room in
      sym (part_is bs (at + records_in_block) (length rs) rs (omega arith) refl (λ i h. sym (block_record i h) ∙ ap (byte bs) (omega arith)))

  block_zeros : all_zero (part bs (at + 4 + length rs) (506 - length rs)) ≡ true
  block_zeros =
      let r = block_room in
      zeros bs (at + 4 + length rs) (506 - length rs) (omega arith) (λ i h.
      let z : at + 4 + length rs + i ≡ at + (4 + (length rs + i)) = omega arith in
      ap (byte bs) z ∙ at_unsealed (4 + (length rs + i)) (omega arith) ∙ unsealed_zero kind count first rs fits (length rs + i) (omega arith) (omega arith))

  -- ---- its check
  block_check : word bs (at + check_in_block) ≡ check (part bs at check_in_block)
  block_check =
      let z : at + check_in_block + 1 ≡ at + 511 = omega arith in
      let x = at_byte check_in_block (omega arith) ∙ sealed_low kind count first rs fits in
      let y = ap (byte bs) z ∙ at_byte 511 (omega arith) ∙ sealed_high kind count first rs fits in
      let c = ap check part_unsealed in
      omega arith

  pub stands : Stands kind count first rs bs at
  stands =
      record {
        kind_right = block_kind;
        count_right = block_count;
        first_right = block_first;
        records_right = block_record;
        zeros_behind = block_zeros;
        check_right = block_check;
      }
