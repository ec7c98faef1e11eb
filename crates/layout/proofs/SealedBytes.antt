-- The bytes of a block that was made, read again: its header, its records, zeros and its check.
use Rattle.std.proofs.Common.{◌≡◌, ℕ, ◌+◌, ◌-◌, ◌/◌, ◌%◌, ◌<◌, ◌≤◌, List, ◌∷◌, ◌++◌, length, take, replicate, sym, refl, ap, ◌∙◌, arith, take_at, get_or-append-add}
use lib.ListN.{get_or-replicate, get_or-append}
use Rattle.layout.specs.Bytes.{byte, check, word_bytes}
use Rattle.layout.specs.Blocks.{unsealed, sealed}
use Rattle.layout.proofs.Sealed.{length_unsealed}

module _ (kind count first : ℕ) (rs : List ℕ) (fits : length rs ≤ 506) where
  abbrev body : List ℕ
  body = unsealed kind count first rs

  -- ---- before the check
  pub unsealed_kind : byte body 0 ≡ kind
  unfolding unsealed
  unsealed_kind = refl

  pub unsealed_count : byte body 1 ≡ count
  unfolding unsealed
  unsealed_count = refl

  pub unsealed_low : byte body 2 ≡ first % 256
  unfolding unsealed
  unsealed_low = refl

  pub unsealed_high : byte body 3 ≡ first / 256
  unfolding unsealed
  unsealed_high = refl

  pub unsealed_record : (i : ℕ) → i < length rs → byte body (4 + i) ≡ byte rs i
  unfolding unsealed
  unsealed_record i h =
      get_or-append-add (kind ∷ count ∷ word_bytes first) (rs ++ replicate (506 - length rs) 0) i 0 ∙ get_or-append rs (replicate (506 - length rs) 0) 0 i h

  pub unsealed_zero : (i : ℕ) → length rs ≤ i → i < 506 → byte body (4 + i) ≡ 0
  unfolding unsealed
  unsealed_zero i h l =
      let e : i ≡ length rs + (i - length rs) = omega arith in
      get_or-append-add (kind ∷ count ∷ word_bytes first) (rs ++ replicate (506 - length rs) 0) i 0
      ∙ ap (byte (rs ++ replicate (506 - length rs) 0)) e
      ∙ get_or-append-add rs (replicate (506 - length rs) 0) (i - length rs) 0
      ∙ get_or-replicate (506 - length rs) (i - length rs) 0 0 (omega arith)

  -- ---- the block
  pub take_sealed : take 510 (sealed kind count first rs) ≡ body
  unfolding sealed
  take_sealed = take_at body (word_bytes (check body)) 510 (length_unsealed kind count first rs fits)

  pub sealed_byte : (i : ℕ) → i < 510 → byte (sealed kind count first rs) i ≡ byte body i
  unfolding sealed
  sealed_byte i h = get_or-append body (word_bytes (check body)) 0 i (omega (arith, length_unsealed kind count first rs fits))

  -- the two bytes of the check
  check_byte : (i : ℕ) → byte (sealed kind count first rs) (510 + i) ≡ byte (word_bytes (check body)) i
  unfolding sealed
  check_byte i =
      ap (λ n. byte (body ++ word_bytes (check body)) (n + i)) (sym (length_unsealed kind count first rs fits)) ∙ get_or-append-add body (word_bytes (check body)) i 0

  pub sealed_low : byte (sealed kind count first rs) 510 ≡ check body % 256
  sealed_low = check_byte 0

  pub sealed_high : byte (sealed kind count first rs) 511 ≡ check body / 256
  sealed_high = check_byte 1
