-- Test 8 of each block of a design, as the code makes it: record by record, and then the bytes behind the records.
use mathlib.Core.Path.{◌≡◌, refl, sym, ap, ◌∙◌}
use mathlib.Core.Bool.{Bool, ◌&&◌}
use mathlib.Core.List.{List, []}
use Prim.Native.Nat.{ℕ, zero, suc, ◌+◌, ◌-◌, ◌*◌, ◌<◌}
use native.Mathlib.Nat.{one-mul}
use native.Mathlib.Omega.{arith}
use lib.ListN.{length}
use Rattle.model.specs.Judged.{all}
use Rattle.layout.specs.Sizes.{side_count, block_bytes, records_in_block, check_in_block}
use Rattle.layout.specs.Bytes.{part, all_zero}
use Rattle.layout.specs.Tables.{every}
use Rattle.layout.specs.Unused.{Layout, state_record, formula_record, size, unused}
use Rattle.layout.specs.Blocks.{formulas, rules, record_count}
use Rattle.layout.specs.Designs.{held, design, side, side_block}
use Rattle.refusals.specs.Refusals.{unused_right}
use Rattle.layout.proofs.DesignBytes.{side_length, forms_length, rules_length}
use Rattle.layout.proofs.Tables.{every_true}

module _ (bs : List ℕ) where
  -- the unused bytes of n records, and the bytes behind them, are zero
  abbrev pub records_zero : Layout → ℕ → ℕ → Bool
  records_zero l at n = every n (λ k. all_zero (unused l bs (at + records_in_block + size l * k)))

  abbrev pub behind_zero : ℕ → ℕ → Bool
  behind_zero at used = all_zero (part bs (at + records_in_block + used) (check_in_block - records_in_block - used))

  side_by_count : (i : ℕ) → i < side_count
      → unused_right bs (side_block i)
      ≡ (records_zero state_record (block_bytes * i) (record_count bs (side_block i)) && behind_zero (block_bytes * i) (size state_record * record_count bs (side_block i)))
  unfolding unused_right
  side_by_count zero h = refl
  side_by_count (suc zero) h = refl
  side_by_count (suc (suc zero)) h = refl
  side_by_count (suc (suc (suc i))) h = absurd (omega arith)

  pub side_unused : (i : ℕ) → i < side_count → i < held bs
      → unused_right bs (side_block i)
      ≡ (records_zero state_record (block_bytes * i) (length (side (design bs) i)) && behind_zero (block_bytes * i) (size state_record * length (side (design bs) i)))
  side_unused i h l =
      side_by_count i h
      ∙ ap (λ n. records_zero state_record (block_bytes * i) n && behind_zero (block_bytes * i) (size state_record * n)) (sym (side_length bs i h l))

  pub formulas_unused : unused_right bs (formulas (held bs))
      ≡ (records_zero formula_record (formulas (held bs)).at (length (design bs).forms) && behind_zero (formulas (held bs)).at (size formula_record * length (design bs).forms))
  unfolding unused_right
  formulas_unused = ap (λ n. records_zero formula_record (formulas (held bs)).at n && behind_zero (formulas (held bs)).at (size formula_record * n)) (sym (forms_length bs))

  -- a rule has no unused byte
  pub rules_unused : unused_right bs (rules (held bs)) ≡ behind_zero (rules (held bs)).at (length (design bs).rules)
  unfolding unused_right unused all_zero all
  rules_unused =
      ap (λ b. b && behind_zero (rules (held bs)).at (1 * record_count bs (rules (held bs)))) (every_true (λ k. all_zero []) (record_count bs (rules (held bs))) (λ k h. refl))
      ∙ ap (behind_zero (rules (held bs)).at) (one-mul (record_count bs (rules (held bs))) ∙ sym (rules_length bs))
