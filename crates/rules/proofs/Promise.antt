-- What the call promises, in the words of the text. A text of the grammar is read, unless 20, 21 or 12 refuses it, and only such a text; it is 19 exactly where it is none. A count is
-- that of its lines: then rule i of a design made of any sides and these blocks holds exactly where line i does, and the design isn't refused where its sides are not. A refusal
-- leaves every lent byte.
use mathlib.Core.Path.{◌≡◌, refl, sym, ap, ap₂, subst⁻¹, ◌∙◌}
use mathlib.Core.Bool.{Bool, true, false, cond, true≢false}
use mathlib.Core.Logic.{◌↔◌}
use mathlib.Core.List.{List, [], ◌∷◌, ◌++◌, Memᴰ as In}
use Prim.Native.Nat.{ℕ, ◌+◌, ◌*◌, ◌≤◌, ◌<◌}
use native.Mathlib.Decide.{ℕ_discrete}
use native.Mathlib.Omega.{arith}
use borrow.Author.Tests.{leb-true}
use lib.Dec.{eqb, leb}
use lib.ListN.{length, drop, get_or, length-map, length-append}
use Rattle.model.specs.Actl.{System, Holds}
use Rattle.model.specs.Formulas.{formula}
use Rattle.model.specs.Judged.{all}
use Rattle.model.proofs.Lists.{all_in}
use Rattle.model.proofs.Bools.{T_true}
use Rattle.layout.specs.Sizes.{side_count, least_sides, most_formulas, most_rules, block_bytes}
use Rattle.layout.specs.Bytes.{part, put}
use Rattle.layout.specs.Blocks.{sealed}
use Rattle.layout.specs.Designs.{design}
use Rattle.layout.proofs.Tables.{and_left, and_right, true_T}
use Rattle.layout.proofs.Put.{drop_put}
use Rattle.layout.proofs.Sealed.{part_put, length_sealed}
use Rattle.refusals.specs.Refusals.{Test, first_failing, left_by, design_refusal}
use Rattle.refusals.proofs.Passing.{passed}
use Rattle.refusals.proofs.ByRefusal.{where_none, where_some}
use Rattle.typed.specs.Grammar.{Typed, constant, Lines}
use Rattle.typed.specs.Meaning.{Means}
use Rattle.typed.specs.Records.{universal, formula_for, sizes, all_records, rules_from, forms_to, rule_blocks}
use Rattle.typed.proofs.Sizes.{length_all_records, length_rules, length_forms_to}
use Rattle.typed.proofs.Unique.{unique}
use Rattle.typed.proofs.Accepted.{SidesPass}
use Rattle.typed.proofs.Ruled.{ruled, ruled_accepted}
use Rattle.std.specs.Prelude.{Result, Ok}
use Rattle.refusals.specs.declared.refusal.Refusal.{Refusal}
use Rattle.refusals.specs.Answered.{Answer, done, refused, answered}
use Rattle.rules.specs.Rules.{Reading, as_rules, as_nothing, is_read, rules_of, formulas_for, few, rules_refusal, rules_answer, Ruling}

-- ---- a text of the grammar
-- whatever the reading is, it is that of the rules
read_as : {text : List ℕ} {fs : List Typed} (r : Reading text) → Lines text fs → (is_read r ≡ true) × (rules_of r ≡ fs)
read_as (as_rules gs l) m = (refl, unique l m)
read_as (as_nothing n) m = absurd (n _ m)

-- the tests of a reading, by whether it is one and by its rules
abbrev tests : Bool → List Typed → ℕ → List Test
tests read fs room =
    record { number = 19; passes = read }
    ∷ record { number = 20; passes = all universal fs }
    ∷ record { number = 21; passes = few fs }
    ∷ record { number = 12; passes = leb (2 * block_bytes) room }
    ∷ []

module _ (text before : List ℕ) (a : Result ℕ Refusal) (after : List ℕ) (p : Ruling text before a after) where
  abbrev refusal : ℕ
  refusal = rules_refusal p.reading (length before)

  -- Every text of the grammar is read unless it is refused: its rules decide the answer and the bytes.
  pub decided : (fs : List Typed) (l : Lines text fs) → (answered a ≡ rules_answer (as_rules fs l) (length before))
      × (after ≡ left_by (rules_refusal (as_rules fs l) (length before)) before (rule_blocks (formulas_for fs)))
  unfolding rules_refusal
  decided fs l =
      let w = read_as p.reading l in
      let e : first_failing (tests (is_read p.reading) (rules_of p.reading) (length before)) ≡ first_failing (tests true fs (length before)) =
      ap₂ (λ (b : Bool) (gs : List Typed). first_failing (tests b gs (length before))) w.0 w.1 in (
        p.answers ∙ ap₂ (λ (k : ℕ) (gs : List Typed). cond (eqb k 0) (done (length gs)) (refused k)) e w.1,
        p.leaves ∙ ap₂ (λ (k : ℕ) (gs : List Typed). left_by k before (rule_blocks (formulas_for gs))) e w.1,
      )

  goes_on : refusal ≡ 0 → answered a ≡ done (length (rules_of p.reading))
  goes_on e = p.answers ∙ where_none refusal (done (length (rules_of p.reading))) (refused refusal) e

  stops : (refusal ≡ 0 → ⊥) → answered a ≡ refused refusal
  stops n = p.answers ∙ where_some refusal (done (length (rules_of p.reading))) (refused refusal) n

  -- a count: nothing is refused, and it is that of the rules
  pub says_count : (n : ℕ) → a ≡ Ok n → (rules_refusal p.reading (length before) ≡ 0) × (n ≡ length (rules_of p.reading))
  says_count n e = elim (ℕ_discrete refusal 0) [ yes z ↦ (z, same (sym (ap answered e) ∙ goes_on z)) | no m ↦ absurd (apart (sym (ap answered e) ∙ stops m)) ]
    where
      apart : ◌≡◌ {A = Answer ℕ} (done n) (refused refusal) → ⊥
      apart e = let z : ◌≡◌ {A = ℕ} 0 1 = cc in omega arith

      same : {m k : ℕ} → ◌≡◌ {A = Answer ℕ} (done m) (done k) → m ≡ k
      same e = cc

  -- a refusal: it is the first test's that fails, and all is as it was
  pub says_refused : (k : ℕ) → answered a ≡ refused k → (rules_refusal p.reading (length before) ≡ k) × (k ≡ 0 → ⊥) × (after ≡ before)
  says_refused k e =
      elim (ℕ_discrete refusal 0) [
        | yes z ↦ absurd (apart (sym e ∙ goes_on z))
        | no m ↦ let f = same (sym (stops m) ∙ e) in (f, (λ z. m (f ∙ z)), p.leaves ∙ where_some refusal (put before 0 (rule_blocks (formulas_for (rules_of p.reading)))) before m)
      ]
    where
      apart : ◌≡◌ {A = Answer ℕ} (refused k) (done (length (rules_of p.reading))) → ⊥
      apart e = let z : ◌≡◌ {A = ℕ} 0 1 = cc in omega arith

      same : ◌≡◌ {A = Answer ℕ} (refused refusal) (refused k) → refusal ≡ k
      same e = cc

-- ---- 19
-- of a text that is read it is another number
never_19 : (a b c : Bool) → ◌≡◌ {A = ℕ} (cond a (cond b (cond c 0 12) 21) 20) 19 → ⊥
never_19 true true true e = omega arith
never_19 true true false e = omega arith
never_19 true false c e = omega arith
never_19 false b c e = omega arith

only_unread : {text : List ℕ} (r : Reading text) (room : ℕ) → rules_refusal r room ≡ 19 → (fs : List Typed) → Lines text fs → ⊥
unfolding rules_refusal first_failing
only_unread (as_rules gs l) room e = absurd (never_19 (all universal gs) (few gs) (leb (2 * block_bytes) room) e)
only_unread (as_nothing n) room e = n

unread_refused : {text : List ℕ} (r : Reading text) (room : ℕ) → ((fs : List Typed) → Lines text fs → ⊥) → rules_answer r room ≡ refused 19
unfolding rules_refusal first_failing
unread_refused (as_rules gs l) room n = absurd (n gs l)
unread_refused (as_nothing m) room n = refl

-- exactly where no rules are a reading of the text
pub unread_is_19 : (text before : List ℕ) (a : Result ℕ Refusal) (after : List ℕ) → Ruling text before a after → (answered a ≡ refused 19) ↔ ((fs : List Typed) → Lines text fs → ⊥)
unread_is_19 text before a after p =
    ((λ e. only_unread p.reading (length before) (says_refused text before a after p 19 e).0), λ n. p.answers ∙ unread_refused p.reading (length before) n)

-- ---- rules
lines_of : {text : List ℕ} (r : Reading text) → is_read r ≡ true → Lines text (rules_of r)
lines_of (as_rules fs l) e = l
lines_of (as_nothing n) e = absurd (true≢false (sym e))

module _ (text before : List ℕ) (n : ℕ) (after : List ℕ) (p : Ruling text before (Ok n) after) where
  abbrev fs : List Typed
  fs = rules_of p.reading

  nothing_refused : rules_refusal p.reading (length before) ≡ 0
  nothing_refused = (says_count text before (Ok n) after p n refl).0

  -- what has passed
  record Passed : Type 0 where
    read : is_read p.reading ≡ true
    right : all universal fs ≡ true
    few_forms : sizes (formulas_for fs) ≤ most_formulas
    few_rules : length fs ≤ most_rules
    roomy : 2 * block_bytes ≤ length before

  passes : Passed
  unfolding rules_refusal
  passes =
      let w = passed _ _ (omega arith) nothing_refused in
      let x = passed _ _ (omega arith) w.1 in
      let y = passed _ _ (omega arith) x.1 in
      let z = passed _ _ (omega arith) y.1 in
      let m = leb (sizes (formulas_for fs)) most_formulas in
      let k = leb (length fs) most_rules in
      record {
        read = w.0;
        right = x.0;
        few_forms = leb-true (sizes (formulas_for fs)) most_formulas (and_left m k y.0);
        few_rules = leb-true (length fs) most_rules (and_right m k y.0);
        roomy = leb-true (2 * block_bytes) (length before) z.0;
      }

  -- A text that is read is of the grammar, one rule a line, and as many are counted.
  pub of_the_grammar : Lines text (rules_of p.reading) × (n ≡ length (rules_of p.reading))
  of_the_grammar = (lines_of p.reading passes.read, (says_count text before (Ok n) after p n refl).1)

  pub few_lines : n ≤ most_rules
  few_lines = omega (arith, of_the_grammar.1, passes.few_rules)

  -- the blocks, and what stands behind them
  blocks_written : after ≡ put before 0 (rule_blocks (formulas_for fs))
  blocks_written = p.leaves ∙ where_none (rules_refusal p.reading (length before)) (put before 0 (rule_blocks (formulas_for fs))) before nothing_refused

  blocks_long : length (rule_blocks (formulas_for fs)) ≡ 2 * block_bytes
  unfolding rule_blocks
  blocks_long =
      let rules = formulas_for fs in
      let q = passes in
      let forms : length (sealed 3 (sizes rules) 0 (forms_to (all_records 0 rules))) ≡ 512 =
      length_sealed 3 (sizes rules) 0 (forms_to (all_records 0 rules)) (omega (arith, length_forms_to (all_records 0 rules), length_all_records 0 rules, q.few_forms)) in
      let numbers : length (sealed 4 (length rules) 0 (rules_from 0 rules)) ≡ 512 =
      length_sealed 4 (length rules) 0 (rules_from 0 rules) (omega (arith, length_rules 0 rules, length-map fs formula_for, q.few_rules)) in
      omega (arith, length-append (sealed 3 (sizes rules) 0 (forms_to (all_records 0 rules))) (sealed 4 (length rules) 0 (rules_from 0 rules)))

  room_for_both : 0 + length (rule_blocks (formulas_for fs)) ≤ length before
  room_for_both = omega (arith, blocks_long, passes.roomy)

  pub blocks_are : part after 0 (2 * block_bytes) ≡ rule_blocks (formulas_for (rules_of p.reading))
  blocks_are =
      ap₂ (λ (l : List ℕ) (k : ℕ). part l 0 k) blocks_written (sym blocks_long) ∙ part_put (rule_blocks (formulas_for fs)) before 0 room_for_both

  pub as_it_was : drop (2 * block_bytes) after ≡ drop (2 * block_bytes) before
  as_it_was =
      let z : 2 * block_bytes ≡ 0 + length (rule_blocks (formulas_for fs)) = omega (arith, blocks_long) in
      ap₂ (λ (l : List ℕ) (k : ℕ). drop k l) blocks_written z ∙ drop_put (rule_blocks (formulas_for fs)) before 0 room_for_both ∙ ap (λ (k : ℕ). drop k before) (sym z)

  -- ---- a design made of sides, two or three, and these blocks
  module _ (ss : List ℕ) (sides : ℕ) (long : length ss ≡ block_bytes * sides) where
    abbrev made : List ℕ
    made = ss ++ part after 0 (2 * block_bytes)

    each_universal : (f : Typed) → In f fs → universal f ≡ true
    each_universal f i = T_true (universal f) (all_in universal i (true_T (all universal fs) passes.right))

    -- rule i holds exactly where line i does
    pub line_holds : (i : ℕ) → i < n → (M : System) (s : M.State)
        → Holds M (formula (design (ss ++ part after 0 (2 * block_bytes))).forms (get_or (design (ss ++ part after 0 (2 * block_bytes))).rules i 0)) s
        ↔ Means M (get_or (rules_of p.reading) i (constant false)) s
    line_holds i h M s =
        subst⁻¹ (λ (bs : List ℕ). Holds M (formula (design (ss ++ bs)).forms (get_or (design (ss ++ bs)).rules i 0)) s ↔ Means M (get_or fs i (constant false)) s) blocks_are
        (ruled ss sides long fs passes.few_forms passes.few_rules each_universal i (omega (arith, of_the_grammar.1)) M s)

    -- it isn't refused where its sides are not
    pub design_accepted : least_sides ≤ sides → sides ≤ side_count → SidesPass ss sides → design_refusal (ss ++ part after 0 (2 * block_bytes)) ≡ 0
    design_accepted l m q =
        ap (λ (bs : List ℕ). design_refusal (ss ++ bs)) blocks_are ∙ ruled_accepted ss sides long fs passes.few_forms passes.few_rules of_the_grammar.0 l m q
