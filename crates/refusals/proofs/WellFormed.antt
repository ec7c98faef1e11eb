-- Tests 5, 6 and 7 of a design's bytes say what the model's predicates say of the design that the bytes spell, and a design that is not refused is well
-- formed.
use mathlib.Core.Path.{◌≡◌, subst, subst⁻¹}
use mathlib.Core.Bool.{◌&&◌}
use mathlib.Core.Logic.{◌↔◌}
use mathlib.Core.List.{List, [], Memᴰ as In}
use Prim.Native.Nat.{ℕ, ◌≤◌, ◌<◌}
use native.Mathlib.Omega.{arith}
use lib.Dec.{T}
use lib.ListN.{length}
use Rattle.model.specs.Sides.{Side, state, WellFormedState, HasKind, WellFormedSide}
use Rattle.model.specs.Formulas.{Lower, Propositions}
use Rattle.model.specs.Designs.{WellFormed}
use Rattle.model.specs.Judged.{all}
use Rattle.model.proofs.Bools.{T_true, and_both, both_and}
use Rattle.model.proofs.Lists.{all_in, in_all, get_or_in, index_in}
use Rattle.layout.specs.Sizes.{side_count, place_count}
use Rattle.layout.specs.Blocks.{design_blocks}
use Rattle.layout.specs.Designs.{held, Whole, design, side, stored_state}
use Rattle.layout.specs.Tests.{side_right, kinds_right, forms_right, rules_right}
use Rattle.refusals.specs.Counted.{Counted}
use Rattle.refusals.specs.Refusals.{first_failing, length_right, check_right, header_right, count_right, unused_right, kinds_known, formulas_right, design_refusal}
use Rattle.layout.proofs.DesignBytes.{sides_length}
use Rattle.refusals.proofs.StateTests.{side_states_formed, side_kinds_formed, side_passes, stored_small}
use Rattle.refusals.proofs.FormulaTests.{formulas_formed, rules_formed}
use Rattle.refusals.proofs.Passing.{passes}
use Rattle.refusals.proofs.DesignBlocks.{length_whole}
use Rattle.refusals.proofs.CountedBytes.{counted}

-- ---- each test by itself
-- 5
pub states_test : (Ss : List Side)
    → T (all side_right Ss) ↔ ((S : Side) → In S Ss → (s : ℕ) → s < length S → WellFormedState (length S) (state S s))
states_test Ss =
    (λ t S i. (side_states_formed S).0 (all_in side_right i t), λ f. in_all side_right Ss (λ S i. (side_states_formed S).1 (f S i)))

-- 6
pub kinds_test : (Ss : List Side) → T (all kinds_right Ss) ↔ ((S : Side) → In S Ss → (s : ℕ) → s < length S → HasKind (state S s))
kinds_test Ss =
    (λ t S i. (side_kinds_formed S).0 (all_in kinds_right i t), λ f. in_all kinds_right Ss (λ S i. (side_kinds_formed S).1 (f S i)))

-- 7
pub record FormulasRight (bs : List ℕ) : Type 0 where
  pub known : T (kinds_known bs)
  pub lower : Lower (design bs).forms
  pub propositions : Propositions side_count (design bs).forms
  pub rules_there : (r : ℕ) → In r (design bs).rules → r < length (design bs).forms

pub formulas_test : (bs : List ℕ) → T (formulas_right bs) ↔ FormulasRight bs
unfolding formulas_right
formulas_test bs =
    let D = design bs in (
      λ t. let u = and_both (kinds_known bs && forms_right D.forms) (rules_right (length D.forms) D.rules) t in
          let w = and_both (kinds_known bs) (forms_right D.forms) u.0 in
          let f = (formulas_formed D.forms).0 w.1 in
          record { known = w.0; lower = f.0; propositions = f.1; rules_there = (rules_formed (length D.forms) D.rules).0 u.1 },
      λ f. both_and (kinds_known bs && forms_right D.forms) (rules_right (length D.forms) D.rules)
          (both_and (kinds_known bs) (forms_right D.forms) f.known ((formulas_formed D.forms).1 (f.lower, f.propositions)))
          ((rules_formed (length D.forms) D.rules).1 f.rules_there),
    )

-- ---- all of them: what a design that is not refused has passed
pub record Passed (bs : List ℕ) : Type 0 where
  pub whole : Whole bs
  pub checks : T (all (check_right bs) (design_blocks (held bs)))
  pub headers : T (all (header_right bs) (design_blocks (held bs)))
  pub counts : T (all (count_right bs) (design_blocks (held bs)))
  pub states : T (all side_right (design bs).sides)
  pub kinds : T (all kinds_right (design bs).sides)
  pub formulas : T (formulas_right bs)
  pub unused : T (all (unused_right bs) (design_blocks (held bs)))

pub passed : (bs : List ℕ) → design_refusal bs ≡ 0 → Passed bs
unfolding design_refusal
passed bs e =
    let a = passes _ _ (omega arith) e in
    let b = passes _ _ (omega arith) a.1 in
    let c = passes _ _ (omega arith) b.1 in
    let d = passes _ _ (omega arith) c.1 in
    let f = passes _ _ (omega arith) d.1 in
    let g = passes _ _ (omega arith) f.1 in
    let h = passes _ _ (omega arith) g.1 in
    let i = passes _ _ (omega arith) h.1 in
    record {
      whole = (length_whole bs).0 a.0;
      checks = b.0;
      headers = c.0;
      counts = d.0;
      states = f.0;
      kinds = g.0;
      formulas = h.0;
      unused = i.0;
    }

-- and a design that has passed them is not refused
pub not_refused : (bs : List ℕ) → Passed bs → design_refusal bs ≡ 0
unfolding design_refusal first_failing
not_refused bs p =
    let a = T_true (length_right bs) ((length_whole bs).1 p.whole) in
    let b = T_true (all (check_right bs) (design_blocks (held bs))) p.checks in
    let c = T_true (all (header_right bs) (design_blocks (held bs))) p.headers in
    let d = T_true (all (count_right bs) (design_blocks (held bs))) p.counts in
    let e = T_true (all side_right (design bs).sides) p.states in
    let f = T_true (all kinds_right (design bs).sides) p.kinds in
    let g = T_true (formulas_right bs) p.formulas in
    let h = T_true (all (unused_right bs) (design_blocks (held bs))) p.unused in
    rw (a, b, c, d, e, f, g, h)

-- ---- a side that has a block is within its limits; one that rests is well formed
sides_formed : (bs : List ℕ) → Passed bs → (S : Side) → In S (design bs).sides → WellFormedSide S
sides_formed bs p S i =
    let k = index_in [] i in
    let h : k.0 < side_count = omega (arith, k.1, sides_length bs) in
    let c = counted bs p.counts p.whole in
    record {
      some_state = subst (λ (X : Side). 1 ≤ length X) k.2 (c.some_state k.0 h);
      at_most_sixteen = subst (λ (X : Side). length X ≤ 16) k.2 (c.few_states k.0 h);
      each = (states_test (design bs).sides).0 p.states S i;
      kinds = (kinds_test (design bs).sides).0 p.kinds S i;
    }

-- propositions are labels of the sides that a design has
pub own_propositions : (bs : List ℕ) → design_refusal bs ≡ 0 → Propositions side_count (design bs).forms
own_propositions bs e = ((formulas_test bs).0 (passed bs e).formulas).propositions

pub well_formed : (bs : List ℕ) → design_refusal bs ≡ 0 → WellFormed (design bs)
well_formed bs e =
    let p = passed bs e in
    let f = (formulas_test bs).0 p.formulas in
    record {
      each_side = sides_formed bs p;
      lower = f.lower;
      propositions = subst⁻¹ (λ (n : ℕ). Propositions n (design bs).forms) (sides_length bs) (own_propositions bs e);
      rules_there = f.rules_there;
    }

-- its counts are within their limits
pub accepted_counts : (bs : List ℕ) → design_refusal bs ≡ 0 → Counted bs
accepted_counts bs e = let p = passed bs e in counted bs p.counts p.whole

-- side i, and the count of a state of its
pub side_formed : (bs : List ℕ) → design_refusal bs ≡ 0 → (i : ℕ) → i < side_count → WellFormedSide (side (design bs) i)
side_formed bs d i h = (well_formed bs d).each_side (side (design bs) i) (get_or_in (design bs).sides i [] (omega (arith, sides_length bs)))

pub state_small : (bs : List ℕ) → design_refusal bs ≡ 0 → (i k : ℕ) → i < side_count → k < length (side (design bs) i) → (stored_state bs i k).count ≤ place_count
state_small bs d i k h l = stored_small bs i h (side_passes bs (passed bs d).states i h) k l
