-- What stands in a design's bytes, in terms of the decoded design: counts, states, formulas and rules by number.
use Rattle.std.proofs.Common.{◌≡◌, ℕ, zero, suc, ◌+◌, ◌*◌, ◌<◌, ◌≤◌, Bool, cond, List, [], length, get_or, sym, refl, ap, ◌∙◌, arith, le-ltb, lt-ltb}
use native.Mathlib.Decide.{dec_lt}
use Rattle.model.specs.Sides.{Side, state, no_state}
use Rattle.model.specs.Formulas.{truth}
use Rattle.model.specs.Resting.{resting}
use Rattle.layout.specs.Sizes.{side_count, block_bytes, state_bytes, records_in_block}
use Rattle.layout.specs.Tables.{table, table_from}
use Rattle.layout.specs.Bytes.{byte}
use Rattle.layout.specs.States.{state_at, state_of}
use Rattle.layout.specs.Formulas.{form_at, formula_at, formula_of}
use Rattle.layout.specs.Blocks.{formulas, rules, record_count, record_place}
use Rattle.layout.specs.Designs.{held, side_in, side_block, side_of, forms_in, rules_in, design, side, resting_state, stored_state, stored_formula}
use Rattle.layout.proofs.Tables.{length_table, entry}

-- ---- where the block of a side stands
pub side_at : (i : ℕ) → i < side_count → (side_block i).at ≡ block_bytes * i
side_at zero h = refl
side_at (suc zero) h = refl
side_at (suc (suc zero)) h = refl
side_at (suc (suc (suc i))) h = absurd (omega arith)

-- its records are states
pub state_place : (i k : ℕ) → i < side_count → record_place (side_block i) k ≡ block_bytes * i + records_in_block + state_bytes * k
state_place zero k h = refl
state_place (suc zero) k h = refl
state_place (suc (suc zero)) k h = refl
state_place (suc (suc (suc i))) k h = absurd (omega arith)

module _ (bs : List ℕ) where
  -- ---- sides
  pub sides_length : length (design bs).sides ≡ side_count
  unfolding design
  sides_length = length_table (side_of bs) side_count

  side_is : (i : ℕ) → i < side_count → side (design bs) i ≡ side_of bs i
  unfolding design
  side_is i h = entry (side_of bs) [] side_count i h

  -- one that has a block, and one that rests
  pub held_side : (i : ℕ) → i < side_count → i < held bs → side (design bs) i ≡ side_in bs (side_block i)
  unfolding side_of
  held_side i h l = side_is i h ∙ ap (λ (b : Bool). cond b (side_in bs (side_block i)) resting) (lt-ltb i (held bs) l)

  pub resting_side : (i : ℕ) → i < side_count → held bs ≤ i → side (design bs) i ≡ resting
  unfolding side_of
  resting_side i h l = side_is i h ∙ ap (λ (b : Bool). cond b (side_in bs (side_block i)) resting) (le-ltb i (held bs) l)

  pub side_length : (i : ℕ) → i < side_count → i < held bs → length (side (design bs) i) ≡ record_count bs (side_block i)
  unfolding side_in
  side_length i h l = ap length (held_side i h l) ∙ length_table _ _

  -- the records of their states
  pub held_state : (i k : ℕ) → i < held bs → stored_state bs i k ≡ state_at bs (record_place (side_block i) k)
  unfolding stored_state
  held_state i k l = ap (λ (b : Bool). cond b (state_at bs (record_place (side_block i) k)) resting_state) (lt-ltb i (held bs) l)

  pub at_rest : (i k : ℕ) → held bs ≤ i → stored_state bs i k ≡ resting_state
  unfolding stored_state
  at_rest i k l = ap (λ (b : Bool). cond b (state_at bs (record_place (side_block i) k)) resting_state) (le-ltb i (held bs) l)

  pub stored_state_is : (i k : ℕ) → i < side_count → k < length (side (design bs) i) → state_of (stored_state bs i k) ≡ state (side (design bs) i) k
  unfolding side_in state_of table table_from
  stored_state_is i k h l = elim (dec_lt i (held bs)) [ yes y ↦ of_block y | no n ↦ of_rest (omega arith) ]
    where
      of_block : i < held bs → state_of (stored_state bs i k) ≡ state (side (design bs) i) k
      of_block y =
          ap state_of (held_state i k y)
          ∙ sym (ap (λ (S : Side). get_or S k no_state) (held_side i h y) ∙ entry _ no_state (record_count bs (side_block i)) k (omega (arith, side_length i h y)))

      of_rest : held bs ≤ i → state_of (stored_state bs i k) ≡ state (side (design bs) i) k
      of_rest n =
          let first : k ≡ 0 = omega (arith, ap length (resting_side i h n)) in
          ap state_of (at_rest i k n) ∙ sym (ap (λ (S : Side). get_or S k no_state) (resting_side i h n) ∙ ap (λ (j : ℕ). state resting j) first)

  -- ---- formulas
  pub forms_length : length (design bs).forms ≡ record_count bs (formulas (held bs))
  unfolding design forms_in
  forms_length = length_table _ _

  pub stored_formula_is : (k : ℕ) → k < length (design bs).forms → formula_of (stored_formula bs k) ≡ get_or (design bs).forms k truth
  unfolding design forms_in form_at formula_at stored_formula
  stored_formula_is k l = sym (entry _ truth (record_count bs (formulas (held bs))) k (omega (arith, forms_length)))

  -- ---- rules
  pub rules_length : length (design bs).rules ≡ record_count bs (rules (held bs))
  unfolding design rules_in
  rules_length = length_table _ _

  pub stored_rule_is : (k : ℕ) → k < length (design bs).rules → byte bs (record_place (rules (held bs)) k) ≡ get_or (design bs).rules k 0
  unfolding design rules_in
  stored_rule_is k l = sym (entry _ 0 (record_count bs (rules (held bs))) k (omega (arith, rules_length)))
