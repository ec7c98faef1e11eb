-- A design made of the blocks of its sides and, behind them, the two blocks that are made of formulas: it holds those formulas and rules, and these two blocks pass every test.
use mathlib.Core.Path.{◌≡◌, refl, sym, ap, subst, subst⁻¹, ◌∙◌}
use mathlib.Core.Bool.{true}
use mathlib.Core.List.{List, ◌++◌, append_assoc, Memᴰ as In}
use Prim.Native.Nat.{ℕ, ◌+◌, ◌*◌, ◌≤◌, ◌<◌}
use native.Mathlib.Nat.{one-mul}
use native.Mathlib.Omega.{arith}
use lib.ListN.{length, get_or, take, length-append}
use lib.Seq.{take_at, drop_at, take_all}
use Rattle.model.specs.Actl.{Actl}
use Rattle.model.specs.Formulas.{Form, truth, Lower, Propositions}
use Rattle.model.specs.Judged.{all}
use Rattle.model.proofs.Bools.{T_true}
use Rattle.layout.specs.Sizes.{side_count, least_sides, other_blocks, most_formulas, most_rules, formula_bytes, block_bytes, records_in_block}
use Rattle.layout.specs.Tables.{table, every}
use Rattle.layout.specs.Bytes.{byte, part, all_zero}
use Rattle.layout.specs.Formulas.{form_at, known_kind}
use Rattle.layout.specs.Unused.{unused}
use Rattle.layout.specs.Blocks.{sealed, formulas, rules, record_count, record_place}
use Rattle.layout.specs.Designs.{held, Whole, forms_in, rules_in, design}
use Rattle.layout.proofs.Tables.{true_T, every_true, as_table, table_same}
use Rattle.layout.proofs.Sealed.{length_sealed}
use Rattle.layout.proofs.SealedBlocks.{Stands, stands}
use Rattle.refusals.specs.Refusals.{length_right, kinds_known, formulas_right}
use Rattle.refusals.proofs.DesignBlocks.{length_whole}
use Rattle.refusals.proofs.WellFormed.{formulas_test}
use Rattle.typed.specs.Records.{sizes, all_records, rules_from, form_to, forms_to, rule_blocks}
use Rattle.typed.proofs.Sizes.{length_all_records, length_rules, length_forms_to}
use Rattle.typed.proofs.Names.{Labelled}
use Rattle.typed.proofs.Formed.{lower, propositions, rules_there}
use Rattle.typed.proofs.FormBytes.{record_byte, form_read, kind_known, form_unused}
use Rattle.typed.proofs.Standing.{Passes, standing}

module _ (ss : List ℕ) (n : ℕ) (long : length ss ≡ block_bytes * n) (given : List Actl) (few_forms : sizes given ≤ most_formulas) (few_rules : length given ≤ most_rules) where
  -- the design
  abbrev bs : List ℕ
  bs = ss ++ rule_blocks given

  -- the records of the first block
  abbrev form_bytes : List ℕ
  form_bytes = forms_to (all_records 0 given)

  -- the records of the second
  abbrev numbers : List ℕ
  numbers = rules_from 0 given

  -- the blocks
  abbrev form_block : List ℕ
  form_block = sealed 3 (sizes given) 0 form_bytes

  -- of the rules
  abbrev rule_block : List ℕ
  rule_block = sealed 4 (length given) 0 numbers

  -- 4 bytes a record
  length_forms : length form_bytes ≡ formula_bytes * sizes given
  length_forms = length_forms_to (all_records 0 given) ∙ ap (λ k. formula_bytes * k) (length_all_records 0 given)

  -- the records have room in their block
  forms_fit : length form_bytes ≤ 506
  forms_fit = omega (arith, length_forms)

  -- and so have the rules
  rules_fit : length numbers ≤ 506
  rules_fit = omega (arith, length_rules 0 given)

  -- a block has 512 bytes
  length_form_block : length form_block ≡ block_bytes
  length_form_block = length_sealed 3 (sizes given) 0 form_bytes forms_fit

  -- and so has the other
  length_rule_block : length rule_block ≡ block_bytes
  length_rule_block = length_sealed 4 (length given) 0 numbers rules_fit

  -- what stands before the rules
  length_ahead : length (ss ++ form_block) ≡ block_bytes * (n + 1)
  length_ahead = length-append ss form_block ∙ omega (arith, length_form_block)

  -- ---- where they stand
  by_blocks : bs ≡ (ss ++ form_block) ++ rule_block
  unfolding rule_blocks
  by_blocks = sym (append_assoc ss form_block rule_block)

  -- two blocks more than the sides have
  whole_length : length bs ≡ block_bytes * (n + other_blocks)
  whole_length = ap length by_blocks ∙ length-append (ss ++ form_block) rule_block ∙ omega (arith, length_ahead, length_rule_block)

  -- so n sides have a block
  pub held_is : held (ss ++ rule_blocks given) ≡ n
  held_is = omega (arith, whole_length)

  -- the formulas stand behind the sides
  forms_stand : Stands 3 (sizes given) 0 form_bytes bs (block_bytes * n)
  unfolding rule_blocks
  forms_stand =
      stands 3 (sizes given) 0 form_bytes forms_fit bs (block_bytes * n)
      (ap (take block_bytes) (drop_at ss (form_block ++ rule_block) (block_bytes * n) long) ∙ take_at form_block rule_block block_bytes length_form_block)

  -- and the rules behind them
  rules_stand : Stands 4 (length given) 0 numbers bs (block_bytes * (n + 1))
  rules_stand =
      stands 4 (length given) 0 numbers rules_fit bs (block_bytes * (n + 1))
      (ap (λ l. part l (block_bytes * (n + 1)) block_bytes) by_blocks
      ∙ ap (take block_bytes) (drop_at (ss ++ form_block) rule_block (block_bytes * (n + 1)) length_ahead)
      ∙ take_all block_bytes rule_block (omega (arith, length_rule_block)))

  -- ---- what they hold
  -- the bytes of record k
  record_at : (k : ℕ) → k < sizes given → (d : ℕ) → d < formula_bytes
      → byte bs (record_place (formulas n) k + d) ≡ byte (form_to (get_or (all_records 0 given) k truth)) d
  record_at k h d l =
      let z : record_place (formulas n) k + d ≡ block_bytes * n + (records_in_block + (formula_bytes * k + d)) = omega arith in
      ap (byte bs) z
      ∙ forms_stand.records_right (formula_bytes * k + d) (omega (arith, length_forms))
      ∙ record_byte (all_records 0 given) k d (omega (arith, length_all_records 0 given)) l

  -- the formulas, read again
  pub forms_are : forms_in (ss ++ rule_blocks given) ≡ all_records 0 given
  unfolding forms_in
  forms_are =
      ap (λ m. table (record_count bs (formulas m)) (λ k. form_at bs (record_place (formulas m) k))) held_is
      ∙ ap (λ c. table c (λ k. form_at bs (record_place (formulas n) k))) forms_stand.count_right
      ∙ table_same (λ k. form_at bs (record_place (formulas n) k)) (λ k. get_or (all_records 0 given) k truth) (sizes given)
      (λ k h. form_read (get_or (all_records 0 given) k truth) bs (record_place (formulas n) k) (record_at k h))
      ∙ sym (as_table truth (sizes given) (all_records 0 given) (length_all_records 0 given))

  -- the rules, read again
  pub rules_are : rules_in (ss ++ rule_blocks given) ≡ rules_from 0 given
  unfolding rules_in
  rules_are =
      ap (λ m. table (record_count bs (rules m)) (λ k. byte bs (record_place (rules m) k))) held_is
      ∙ ap (λ c. table c (λ k. byte bs (record_place (rules n) k))) rules_stand.count_right
      ∙ table_same (λ k. byte bs (record_place (rules n) k)) (λ k. get_or numbers k 0) (length given)
      (λ k h.
      let z : record_place (rules n) k ≡ block_bytes * (n + 1) + (records_in_block + k) = omega arith in
      ap (byte bs) z ∙ rules_stand.records_right k (omega (arith, length_rules 0 given)))
      ∙ sym (as_table 0 (length given) numbers (length_rules 0 given))

  -- ---- the tests
  -- 2, 3, 4 and 8 of the formulas
  pub forms_pass : Passes (ss ++ rule_blocks given) (formulas n)
  forms_pass =
      standing bs (formulas n) (sizes given) form_bytes forms_stand (omega arith) few_forms length_forms
      (λ k h. form_unused (get_or (all_records 0 given) k truth) bs (record_place (formulas n) k) (record_at k h))

  -- and of the rules
  pub rules_pass : Passes (ss ++ rule_blocks given) (rules n)
  unfolding unused all_zero all
  rules_pass = standing bs (rules n) (length given) numbers rules_stand (omega arith) few_rules (length_rules 0 given ∙ sym (one-mul (length given))) (λ k h. refl)

  -- of 7: the kinds are known
  known : kinds_known bs ≡ true
  unfolding kinds_known
  known =
      ap (λ m. every (record_count bs (formulas m)) (λ k. known_kind (byte bs (record_place (formulas m) k)))) held_is
      ∙ ap (λ c. every c (λ k. known_kind (byte bs (record_place (formulas n) k)))) forms_stand.count_right
      ∙ every_true (λ k. known_kind (byte bs (record_place (formulas n) k))) (sizes given)
      (λ k h. kind_known (get_or (all_records 0 given) k truth) bs (record_place (formulas n) k) (record_at k h))

  -- so 7 passes where the formulas are over labels
  pub formulas_pass : ((a : Actl) → In a given → Labelled a) → formulas_right (ss ++ rule_blocks given) ≡ true
  unfolding design
  formulas_pass labelled =
      T_true (formulas_right bs)
      ((formulas_test bs).1
      record {
        known = true_T (kinds_known bs) known;
        lower = subst⁻¹ Lower forms_are (lower given labelled);
        propositions = subst⁻¹ (Propositions side_count) forms_are (propositions given labelled);
        rules_there = λ r i. subst⁻¹ (λ (l : List Form). r < length l) forms_are (rules_there given r (subst (λ (l : List ℕ). In r l) rules_are i));
      })

  -- of 1: the blocks are whole
  pub whole : least_sides ≤ n → n ≤ side_count → Whole (ss ++ rule_blocks given)
  whole l m = let e = held_is in record { enough = omega arith; at_most = omega arith; long = omega (arith, whole_length) }

  -- so 1 passes
  pub length_passes : least_sides ≤ n → n ≤ side_count → length_right (ss ++ rule_blocks given) ≡ true
  length_passes l m = T_true (length_right bs) ((length_whole bs).1 (whole l m))
