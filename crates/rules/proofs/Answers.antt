-- What was read, and what is answered: a refusal leaves all as it was, and else the two blocks are those of the rules.
use mathlib.Core.Path.{◌≡◌, refl, sym, ap, ap₂, ◌∙◌}
use mathlib.Core.Bool.{Bool, ◌&&◌, cond, true≢false}
use mathlib.Core.List.{List, ◌++◌}
use Prim.Native.Nat.{ℕ, ◌*◌, ◌≤◌}
use native.Mathlib.Omega.{arith}
use borrow.Author.Tests.{leb-true}
use lib.Dec.{leb}
use lib.ListN.{length, length-map}
use Rattle.layout.proofs.Tables.{and_left, and_right}
use Rattle.layout.specs.Sizes.{block_bytes, most_formulas, most_rules}
use Rattle.layout.specs.Bytes.{part, put}
use Rattle.layout.specs.Blocks.{sealed}
use Rattle.layout.proofs.Put.{put_behind}
use Rattle.layout.proofs.Sealed.{length_sealed}
use Rattle.refusals.specs.Refusals.{first_failing}
use Rattle.refusals.proofs.Passing.{passed}
use Rattle.refusals.proofs.ByRefusal.{where_none, where_some}
use Rattle.typed.specs.Grammar.{Typed, Lines}
use Rattle.typed.specs.Records.{formula_for, sizes, all_records, rules_from, forms_to, rule_blocks}
use Rattle.typed.proofs.Sizes.{length_all_records, length_rules, length_forms_to}
use Rattle.std.specs.Prelude.{Ok, Err}
use Rattle.refusals.specs.declared.refusal.Refusal.{Refusal}
use Rattle.refusals.specs.declared.refusal.Refusal.TheVariants as refusals
use Rattle.refusals.specs.Answered.{number, done, refused}
use Rattle.refusals.proofs.Answered.{number_some}
use Rattle.rules.specs.declared.parts.Grade.TheVariants as grade
use Rattle.rules.specs.declared.lines.Text.{Text}
use Rattle.rules.specs.Grades.{allowed}
use Rattle.rules.specs.Rules.{Reading, as_rules, as_nothing, formulas_for, rules_refusal, Ruling}
use Rattle.rules.specs.Lining.{ReadAs, text_refusal}
use Rattle.rules.proofs.Universal.{all_universal}

-- 19: no rules are a reading of the text
pub unread : (text before : List ℕ) → ((fs : List Typed) → Lines text fs → ⊥) → Ruling text before (Err refusals.Text) before
unfolding rules_refusal first_failing
unread text before none = record { reading = as_nothing none; answers = refl; leaves = refl }

-- what has passed where 20, 21 and 12 refuse nothing
pub record Passed (t : Text) (room : ℕ) : Type 0 where
  pub right : t.grade ≡ grade.Refused → ⊥
  pub few_records : t.count ≤ most_formulas
  pub few_rules : t.rules ≤ most_rules
  pub roomy : 2 * block_bytes ≤ room

pub passes : (t : Text) (room : ℕ) → text_refusal t room ≡ 0 → Passed t room
unfolding text_refusal
passes t room e =
    let a = passed _ _ (omega arith) e in
    let b = passed _ _ (omega arith) a.1 in
    let c = passed _ _ (omega arith) b.1 in
    let m = leb t.count most_formulas in
    let n = leb t.rules most_rules in
    record {
      right = λ z. true≢false (sym a.0 ∙ ap allowed z);
      few_records = leb-true t.count most_formulas (and_left m n b.0);
      few_rules = leb-true t.rules most_rules (and_right m n b.0);
      roomy = leb-true (2 * block_bytes) room c.0;
    }

module _ (text before : List ℕ) {t : Text} {rs us : List ℕ} (x : ReadAs text t rs us) where
  abbrev reading : Reading text
  reading = as_rules x.rules x.lines

  -- the tests of what was read are those of its rules
  same_refusal : text_refusal t (length before) ≡ rules_refusal reading (length before)
  unfolding text_refusal rules_refusal first_failing
  same_refusal =
      let h = x.holds in
      ap₂ (λ (a b : Bool). cond a (cond b (cond (leb (2 * block_bytes) (length before)) 0 12) 21) 20) (ap allowed h.graded ∙ sym (all_universal x.rules))
      (ap₂ (λ (m n : ℕ). leb m most_formulas && leb n most_rules) h.counted h.ruled)

  -- a refusal leaves all as it was
  pub declined : (d : Refusal) → number d ≡ text_refusal t (length before) → Ruling text before (Err d) before
  declined d e =
      let refusal = rules_refusal reading (length before) in
      let some : refusal ≡ 0 → ⊥ = λ z. let n = number_some d in let m = e ∙ same_refusal ∙ z in omega (arith, n, m) in
      record {
        reading = reading;
        answers = ap refused (e ∙ same_refusal) ∙ sym (where_some refusal (done (length x.rules)) (refused refusal) some);
        leaves = sym (where_some refusal (put before 0 (rule_blocks (formulas_for x.rules))) before some);
      }

  -- the two blocks, one behind the other
  pub written : (after : List ℕ) → text_refusal t (length before) ≡ 0
      → after ≡ put (put before 0 (sealed 3 t.count 0 (part rs 0 (4 * t.count)))) block_bytes (sealed 4 t.rules 0 (part us 0 t.rules)) → Ruling text before (Ok t.rules) after
  unfolding rule_blocks
  written after ok e =
      let h = x.holds in
      let p = passes t (length before) ok in
      let rules = formulas_for x.rules in
      let refusal = rules_refusal reading (length before) in
      let none : refusal ≡ 0 = sym same_refusal ∙ ok in
      let records_are : part rs 0 (4 * t.count) ≡ forms_to (all_records 0 rules) = h.made p.right p.few_records in
      let numbers_are : part us 0 t.rules ≡ rules_from 0 rules = h.numbered p.few_records p.few_rules in
      let many : t.rules ≡ length rules = h.ruled ∙ sym (length-map x.rules formula_for) in
      let forms = sealed 3 (sizes rules) 0 (forms_to (all_records 0 rules)) in
      let numbers = sealed 4 (length rules) 0 (rules_from 0 rules) in
      let long_forms : length forms ≡ 512 =
      length_sealed 3 (sizes rules) 0 (forms_to (all_records 0 rules)) (omega (arith, length_forms_to (all_records 0 rules), length_all_records 0 rules, h.counted, p.few_records)) in
      let long_numbers : length numbers ≡ 512 = length_sealed 4 (length rules) 0 (rules_from 0 rules) (omega (arith, length_rules 0 rules, many, p.few_rules)) in
      record {
        reading = reading;
        answers = ap done h.ruled ∙ sym (where_none refusal (done (length x.rules)) (refused refusal) none);
        leaves =
            e
            ∙ ap₂ (λ (xs ys : List ℕ). put (put before 0 xs) block_bytes ys) (ap₂ (λ (n : ℕ) (zs : List ℕ). sealed 3 n 0 zs) h.counted records_are)
            (ap₂ (λ (n : ℕ) (zs : List ℕ). sealed 4 n 0 zs) many numbers_are)
            ∙ put_behind forms numbers before 0 block_bytes long_forms (omega (arith, p.roomy, long_numbers))
            ∙ sym (where_none refusal (put before 0 (forms ++ numbers)) before none);
      }
