-- The new design passes tests 1 to 8, and its sides run as the ranges allow the old ones.
use mathlib.Core.Path.{◌≡◌, sym, ap, ap₂, subst, subst⁻¹, ◌∙◌}
use mathlib.Core.Bool.{Bool, true, ◌&&◌}
use mathlib.Core.Logic.{◌↔◌}
use mathlib.Core.List.{List, [], ◌∷◌, Memᴰ as In}
use Prim.Native.Nat.{ℕ, ◌+◌, ◌-◌, ◌*◌, ◌≤◌, ◌<◌}
use native.Mathlib.Omega.{arith}
use borrow.Author.Tests.{le-leb, eq-eqb}
use lib.Dec.{T, eqb, leb}
use lib.ListN.{length}
use Rattle.model.specs.Events.{Event}
use Rattle.model.specs.Sides.{Side, state, WellFormedSide}
use Rattle.model.specs.Formulas.{Form, Lower, Propositions}
use Rattle.model.specs.Ranges.{Takes, TakesUnder, entered}
use Rattle.model.specs.Judged.{all}
use Rattle.model.proofs.Bools.{T_true}
use Rattle.model.proofs.Lists.{index_in}
use Rattle.model.proofs.Ranges.{same_runs}
use Rattle.layout.specs.Sizes.{side_count, block_bytes, state_bytes, records_in_block, check_in_block}
use Rattle.layout.specs.Tables.{every}
use Rattle.layout.specs.Bytes.{byte, word, part, check, all_zero}
use Rattle.layout.specs.Formulas.{form_of, form_at, absent, known_kind}
use Rattle.layout.specs.Unused.{state_record, formula_record, size, unused}
use Rattle.layout.specs.Blocks.{Block, formulas, rules, design_blocks, record_count, record_place, behind}
use Rattle.layout.specs.Designs.{held, side_block, design, side}
use Rattle.layout.proofs.Tables.{true_T, and_true, every_true}
use Rattle.layout.proofs.DesignBytes.{sides_length, side_at}
use Rattle.layout.proofs.SealedBlocks.{Stands}
use Rattle.layout.proofs.StateBytes.{unused_to}
use Rattle.refusals.specs.Refusals.{check_right, header_right, count_right, unused_right, kinds_known, design_refusal}
use Rattle.refusals.proofs.CountedBytes.{side_limits}
use Rattle.refusals.proofs.DesignBlocks.{side_first, blocks_pass, formulas_pass, rules_pass}
use Rattle.refusals.proofs.DesignUnused.{records_zero, behind_zero, side_unused}
use Rattle.refusals.proofs.WellFormed.{states_test, kinds_test, FormulasRight, formulas_test, Passed, passed, not_refused as passes_all}
use Rattle.ranges.specs.Entries.{side_ranges, new_side}
use Rattle.ranges.specs.Ranges.{ranges_refusal, states_to, ranged_design}
use Rattle.ranges.proofs.Refused.{passes}
use Rattle.ranges.proofs.StatesPut.{length_states}
use Rattle.ranges.proofs.NewSides.{fits, old_formed, new_formed}
use Rattle.ranges.proofs.NewBlocks.{old_whole, new_records, same_length, same_held, same_byte, same_part, new_stands, new_room, new_state, new_sides, same_forms, same_rules}

module _ (ds es : List ℕ) (room : ℕ) (ok : ranges_refusal ds es room ≡ 0) where
  abbrev new : List ℕ
  new = ranged_design ds es

  old_passed : Passed ds
  old_passed = passed ds (passes ds es room ok).designed

  -- ---- the block of side i
  module _ (i : ℕ) (l : i < held ds) where
    abbrev S : Side
    S = new_side ds es i

    abbrev rs : List ℕ
    rs = states_to S

    inside : i < side_count
    inside = omega (arith, (old_whole ds es room ok).at_most)

    few : length rs ≤ 506
    few = new_records ds es room ok i inside

    s : Stands (side_block i).kind (length S) 0 rs new (block_bytes * i)
    s = new_stands ds es room ok i l

    -- 2
    side_check : check_right new (side_block i) ≡ true
    unfolding check_right
    side_check =
        subst⁻¹ (λ at. eqb (word new (at + check_in_block)) (check (part new at check_in_block)) ≡ true) (side_at i inside)
        (eq-eqb (word new (block_bytes * i + check_in_block)) (check (part new (block_bytes * i) check_in_block))
        s.check_right)

    -- 3
    side_header : header_right new (side_block i) ≡ true
    unfolding header_right
    side_header =
        let b = side_block i in
        and_true (eqb (byte new b.at) b.kind) (eqb (word new (b.at + 2)) b.first)
        (eq-eqb (byte new b.at) b.kind (ap (byte new) (side_at i inside) ∙ s.kind_right))
        (eq-eqb (word new (b.at + 2)) b.first
        (ap (λ at. word new (at + 2)) (side_at i inside) ∙ s.first_right ∙ sym (side_first i inside)))

    -- 4
    side_count_right : count_right new (side_block i) ≡ true
    unfolding count_right
    side_count_right =
        let b = side_block i in
        let c = record_count new b in
        let e : c ≡ length S = ap (λ at. byte new (at + 1)) (side_at i inside) ∙ s.count_right in
        let m = side_limits i inside in
        let w = new_formed ds es room ok i inside in
        and_true (leb b.least c) (leb c b.most) (le-leb b.least c (omega (arith, m.0, w.some_state))) (le-leb c b.most (omega (arith, m.1, w.at_most_sixteen)))

    -- 8
    side_unused_right : unused_right new (side_block i) ≡ true
    side_unused_right =
        let at = block_bytes * i in
        side_unused new i inside (omega (arith, same_held ds es room ok))
        ∙ ap (λ (X : Side). records_zero new state_record at (length X) && behind_zero new at (state_bytes * length X)) (new_sides ds es room ok i inside)
        ∙ and_true (records_zero new state_record at (length S)) (behind_zero new at (state_bytes * length S))
        (every_true (λ k. all_zero (unused state_record new (at + records_in_block + state_bytes * k))) (length S) (λ k h.
        unused_to (state S k) new (at + records_in_block + state_bytes * k) ((new_formed ds es room ok i inside).each k h).at_most_eight
        (omega (arith, new_room ds es room ok i l, length_states S, few)) (new_state ds es room ok i l k h)))
        (subst (λ n. behind_zero new at n ≡ true) (length_states S) s.zeros_behind)

  -- ---- a block behind those of the sides is as it was
  module _ (b : Block) (h : block_bytes * held ds ≤ b.at) where
    same_word : (k : ℕ) → word new (b.at + k) ≡ word ds (b.at + k)
    same_word k = ap₂ (λ x y. x + 256 * y) (same_byte ds es room ok (b.at + k) (omega arith)) (same_byte ds es room ok (b.at + k + 1) (omega arith))

    same_check : check_right new b ≡ check_right ds b
    unfolding check_right
    same_check = ap₂ (λ x y. eqb x (check y)) (same_word check_in_block) (same_part ds es room ok b.at check_in_block h)

    same_header : header_right new b ≡ header_right ds b
    unfolding header_right
    same_header = ap₂ (λ x y. eqb x b.kind && eqb y b.first) (same_byte ds es room ok b.at h) (same_word 2)

    same_count : record_count new b ≡ record_count ds b
    same_count = same_byte ds es room ok (b.at + 1) (omega arith)

    same_limits : count_right new b ≡ count_right ds b
    unfolding count_right
    same_limits = ap (λ c. leb b.least c && leb c b.most) same_count

    same_zeros : all_zero (behind new b) ≡ all_zero (behind ds b)
    same_zeros =
        ap (λ c. all_zero (part new (record_place b c) (check_in_block - records_in_block - size b.holds * c))) same_count
        ∙ ap all_zero (same_part ds es room ok (record_place b (record_count ds b)) (check_in_block - records_in_block - size b.holds * record_count ds b) (omega arith))

  -- 8 of the formulas and of the rules
  formula_same : (at : ℕ) → block_bytes * held ds ≤ at → unused formula_record new at ≡ unused formula_record ds at
  unfolding unused form_at
  formula_same at h =
      let a = same_byte ds es room ok at h in
      let b = same_byte ds es room ok (at + 1) (omega arith) in
      let c = same_byte ds es room ok (at + 2) (omega arith) in
      let d = same_byte ds es room ok (at + 3) (omega arith) in
      λ i. d i ∷ absent (form_of (a i) (b i) (c i)) (b i) (c i)

  same_formulas : unused_right new (formulas (held ds)) ≡ unused_right ds (formulas (held ds))
  unfolding unused_right
  same_formulas =
      let b = formulas (held ds) in
      ap₂ ◌&&◌
      (ap (λ c. every c (λ k. all_zero (unused formula_record new (record_place b k)))) (same_count b (omega arith))
      ∙ (λ i. every (record_count ds b) (λ k. all_zero (formula_same (record_place b k) (omega arith) i))))
      (same_zeros b (omega arith))

  same_rules_unused : unused_right new (rules (held ds)) ≡ unused_right ds (rules (held ds))
  unfolding unused_right unused
  same_rules_unused =
      let b = rules (held ds) in
      ap₂ ◌&&◌ (ap (λ c. every c (λ k. all_zero [])) (same_count b (omega arith))) (same_zeros b (omega arith))

  -- ---- a test of every block
  each_block : (p : List ℕ → Block → Bool) → T (all (p ds) (design_blocks (held ds)))
      → ((i : ℕ) → i < held ds → p new (side_block i) ≡ true)
      → p new (formulas (held ds)) ≡ p ds (formulas (held ds))
      → p new (rules (held ds)) ≡ p ds (rules (held ds))
      → T (all (p new) (design_blocks (held new)))
  each_block p t s f r =
      let n = held ds in
      let m = (old_whole ds es room ok).at_most in
      let e = T_true (all (p ds) (design_blocks n)) t in
      subst⁻¹ (λ k. T (all (p new) (design_blocks k))) (same_held ds es room ok)
      (true_T (all (p new) (design_blocks n)) (blocks_pass n m (p new) s (f ∙ formulas_pass n m (p ds) e) (r ∙ rules_pass n m (p ds) e)))

  -- ---- 5 and 6: its sides
  each_new : (X : Side) → In X (design new).sides → WellFormedSide X
  each_new X m =
      let k = index_in [] m in
      let h : k.0 < side_count = omega (arith, k.1, sides_length new) in
      subst WellFormedSide (sym (new_sides ds es room ok k.0 h) ∙ k.2) (new_formed ds es room ok k.0 h)

  -- ---- 7: its formulas and rules
  same_known : kinds_known new ≡ kinds_known ds
  unfolding kinds_known
  same_known =
      let b = formulas (held ds) in
      ap (λ n. every (record_count new (formulas n)) (λ k. known_kind (byte new (record_place (formulas n) k)))) (same_held ds es room ok)
      ∙ ap (λ c. every c (λ k. known_kind (byte new (record_place b k)))) (same_count b (omega arith))
      ∙ (λ i. every (record_count ds b) (λ k. known_kind (same_byte ds es room ok (record_place b k) (omega arith) i)))

  new_formulas : FormulasRight new
  new_formulas =
      let f = (formulas_test ds).0 old_passed.formulas in
      let e = same_forms ds es room ok in
      record {
        known = subst⁻¹ T same_known f.known;
        lower = subst⁻¹ Lower e f.lower;
        propositions = subst⁻¹ (Propositions side_count) e f.propositions;
        rules_there = λ r m.
            subst⁻¹ (λ (l : List Form). r < length l) e (f.rules_there r (subst (λ (l : List ℕ). In r l) (same_rules ds es room ok) m));
      }

  -- ---- all eight
  pub not_refused : design_refusal (ranged_design ds es) ≡ 0
  not_refused =
      let w = old_whole ds es room ok in
      passes_all new
      record {
        whole = record {
          enough = omega (arith, same_held ds es room ok, w.enough);
          at_most = omega (arith, same_held ds es room ok, w.at_most);
          long = omega (arith, same_held ds es room ok, same_length ds es room ok, w.long);
        };
        checks = each_block check_right old_passed.checks side_check (same_check (formulas (held ds)) (omega arith)) (same_check (rules (held ds)) (omega arith));
        headers = each_block header_right old_passed.headers side_header (same_header (formulas (held ds)) (omega arith)) (same_header (rules (held ds)) (omega arith));
        counts = each_block count_right old_passed.counts side_count_right (same_limits (formulas (held ds)) (omega arith)) (same_limits (rules (held ds)) (omega arith));
        states = (states_test (design new).sides).1 (λ X m. (each_new X m).each);
        kinds = (kinds_test (design new).sides).1 (λ X m. (each_new X m).kinds);
        formulas = (formulas_test new).1 new_formulas;
        unused = each_block unused_right old_passed.unused side_unused_right same_formulas same_rules_unused;
      }

  -- ---- its runs are those that the ranges allow
  pub runs_allowed : (i : ℕ) → i < side_count → (evs : List Event) (ws : List ℕ)
      → Takes (side (design (ranged_design ds es)) i) 0 evs ws ↔ TakesUnder (side (design ds) i) (side_ranges es i) (entered 0) evs ws
  runs_allowed i h evs ws =
      subst⁻¹ (λ (X : Side). Takes X 0 evs ws ↔ TakesUnder (side (design ds) i) (side_ranges es i) (entered 0) evs ws) (new_sides ds es room ok i h)
      (same_runs (side (design ds) i) (side_ranges es i) (old_formed ds es room ok i h) (fits ds es room ok i) evs ws)
