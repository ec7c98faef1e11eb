-- A block that stands in a list of bytes with its header, its records, zeros and its check is the block that is made of them.
use Rattle.std.proofs.Common.{◌≡◌, ℕ, zero, suc, ◌+◌, ◌-◌, ◌<◌, ◌≤◌, List, length, sym, ap, ◌∙◌, arith}
use native.Mathlib.Decide.{ℕ_discrete, dec_lt}
use Rattle.layout.specs.Sizes.{block_bytes, check_in_block}
use Rattle.layout.specs.Bytes.{byte, word, part, check}
use Rattle.layout.specs.Blocks.{unsealed, sealed}
use Rattle.layout.proofs.Parts.{part_is, zero_at}
use Rattle.layout.proofs.Sealed.{length_unsealed, length_sealed}
use Rattle.layout.proofs.SealedBytes.{unsealed_kind, unsealed_count, unsealed_low, unsealed_high, unsealed_record, unsealed_zero, sealed_byte, sealed_low, sealed_high}
use Rattle.layout.proofs.SealedBlocks.{Stands}

module _ (kind count first : ℕ) (rs : List ℕ) (fits : length rs ≤ 506) (bs : List ℕ) (bytes : (i : ℕ) → byte bs i < 256) (at : ℕ) (room : at + block_bytes ≤ length bs)
    (s : Stands kind count first rs bs at) where
  abbrev body : List ℕ
  body = unsealed kind count first rs

  -- before the check
  same : (r : ℕ) → r < check_in_block → byte body r ≡ byte bs (at + r)
  same zero l =
      let z : at ≡ at + 0 = omega arith in
      unsealed_kind kind count first rs fits ∙ sym s.kind_right ∙ ap (byte bs) z
  same (suc zero) l = unsealed_count kind count first rs fits ∙ sym s.count_right
  same (suc (suc zero)) l = omega (arith, s.first_right, unsealed_low kind count first rs fits, bytes (at + 2))
  same (suc (suc (suc zero))) l =
      let z : at + 2 + 1 ≡ at + 3 = omega arith in
      omega (arith, s.first_right, unsealed_high kind count first rs fits, bytes (at + 2), ap (byte bs) z)
  same (suc (suc (suc (suc i)))) l =
      let z : suc (suc (suc (suc i))) ≡ 4 + i = omega arith in
      ap (byte body) z ∙ by (dec_lt i (length rs)) ∙ ap (λ r. byte bs (at + r)) (sym z)
    where
      by : Dec (i < length rs) → byte body (4 + i) ≡ byte bs (at + (4 + i))
      by (yes v) = unsealed_record kind count first rs fits i v ∙ sym (s.records_right i v)
      by (no v) =
          let e : at + (4 + i) ≡ at + 4 + length rs + (i - length rs) = omega arith in
          unsealed_zero kind count first rs fits i (omega arith) (omega arith)
          ∙ sym (ap (byte bs) e ∙ zero_at bs (at + 4 + length rs) (506 - length rs) (omega arith) s.zeros_behind (i - length rs) (omega arith))

  unsealed_same : body ≡ part bs at check_in_block
  unsealed_same = part_is bs at check_in_block body (omega arith) (length_unsealed kind count first rs fits) same

  -- the check
  check_same : check body ≡ word bs (at + check_in_block)
  check_same = ap check unsealed_same ∙ sym s.check_right

  sealed_same : (r : ℕ) → r < block_bytes → byte (sealed kind count first rs) r ≡ byte bs (at + r)
  sealed_same r l = by (dec_lt r 510) (ℕ_discrete r 510)
    where
      low : byte (sealed kind count first rs) 510 ≡ byte bs (at + 510)
      low = omega (arith, sealed_low kind count first rs fits, check_same, bytes (at + 510))

      high : byte (sealed kind count first rs) 511 ≡ byte bs (at + 511)
      high =
          let z : at + 510 + 1 ≡ at + 511 = omega arith in
          omega (arith, sealed_high kind count first rs fits, check_same, bytes (at + 510), ap (byte bs) z)

      by : Dec (r < 510) → Dec (r ≡ 510) → byte (sealed kind count first rs) r ≡ byte bs (at + r)
      by (yes v) d = sealed_byte kind count first rs fits r v ∙ same r v
      by (no v) (yes e) = ap (byte (sealed kind count first rs)) e ∙ low ∙ ap (λ i. byte bs (at + i)) (sym e)
      by (no v) (no w) =
          let e : r ≡ 511 = omega arith in
          ap (byte (sealed kind count first rs)) e ∙ high ∙ ap (λ i. byte bs (at + i)) (sym e)

  pub resealed : sealed kind count first rs ≡ part bs at block_bytes
  resealed = part_is bs at block_bytes (sealed kind count first rs) room (length_sealed kind count first rs fits) sealed_same
