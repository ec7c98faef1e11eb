-- A design made of side blocks that pass their tests and of the blocks of formulas over labels is not refused.
use mathlib.Core.Path.{◌≡◌, refl, sym, ap, ◌∙◌}
use mathlib.Core.Bool.{Bool, true}
use mathlib.Core.List.{List, [], ◌++◌, Memᴰ as In}
use Prim.Native.Nat.{ℕ, ◌*◌, ◌≤◌, ◌<◌}
use native.Mathlib.Decide.{dec_lt}
use native.Mathlib.Omega.{arith}
use lib.Dec.{T}
use lib.ListN.{length, take}
use lib.Seq.{length-take-le, get_or-take}
use Rattle.model.specs.Actl.{Actl}
use Rattle.model.specs.Sides.{Side, any_sent}
use Rattle.model.specs.Resting.{resting}
use Rattle.model.specs.Judged.{all}
use Rattle.layout.specs.Sizes.{side_count, least_sides, most_formulas, most_rules, block_bytes}
use Rattle.layout.specs.Tables.{every, distinct}
use Rattle.layout.specs.Blocks.{Block, kernel, side_blocks, design_blocks, formulas, rules}
use Rattle.layout.specs.Designs.{held, side_in, side_block, design, side}
use Rattle.layout.specs.Tests.{state_right, side_right, is_input, kind_right, kinds_right}
use Rattle.layout.proofs.Tables.{true_T, all_at, all_true}
use Rattle.layout.proofs.DesignBytes.{sides_length, held_side, resting_side}
use Rattle.refusals.specs.Refusals.{check_right, header_right, count_right, unused_right, formulas_right, design_refusal}
use Rattle.refusals.proofs.DesignBlocks.{blocks_pass}
use Rattle.refusals.proofs.WellFormed.{not_refused}
use Rattle.typed.specs.Records.{sizes, rule_blocks}
use Rattle.typed.proofs.Names.{Labelled}
use Rattle.typed.proofs.Standing.{Passes}
use Rattle.typed.proofs.Ahead.{ahead_passes, ahead_side}
use Rattle.typed.proofs.Designed.{held_is, whole, forms_pass, rules_pass, formulas_pass}

-- 2 to 6 and 8 of the blocks of n sides, and of the sides that they spell
pub record SidesPass (ss : List ℕ) (n : ℕ) : Type 0 where
  pub checks : all (check_right ss) (take n side_blocks) ≡ true
  pub headers : all (header_right ss) (take n side_blocks) ≡ true
  pub counts : all (count_right ss) (take n side_blocks) ≡ true
  pub states : all (λ b. side_right (side_in ss b)) (take n side_blocks) ≡ true
  pub kinds : all (λ b. kinds_right (side_in ss b)) (take n side_blocks) ≡ true
  pub clean : all (unused_right ss) (take n side_blocks) ≡ true

-- a test of those blocks is one of each
at_side : (p : Block → Bool) (n : ℕ) → n ≤ side_count → all p (take n side_blocks) ≡ true → (i : ℕ) → i < n → p (side_block i) ≡ true
at_side p n m e i h = ap p (sym (get_or-take n side_blocks i kernel h)) ∙ all_at p kernel (take n side_blocks) e i (omega (arith, length-take-le n side_blocks m))

-- a side that rests passes 5
resting_states : side_right resting ≡ true
unfolding side_right state_right every distinct
resting_states = refl

-- and 6
resting_kinds : kinds_right resting ≡ true
unfolding kinds_right kind_right is_input any_sent every
resting_kinds = refl

module _ (ss : List ℕ) (n : ℕ) (long : length ss ≡ block_bytes * n) (given : List Actl) (few_forms : sizes given ≤ most_formulas) (few_rules : length given ≤ most_rules) (enough : least_sides ≤ n) (at_most : n ≤ side_count) (sides : SidesPass ss n) where
  -- the design
  abbrev bs : List ℕ
  bs = ss ++ rule_blocks given

  -- the block of side i, alone
  alone : (i : ℕ) → i < n → Passes ss (side_block i)
  alone i h =
      record {
        checked = at_side (check_right ss) n at_most sides.checks i h;
        headed = at_side (header_right ss) n at_most sides.headers i h;
        counted = at_side (count_right ss) n at_most sides.counts i h;
        clean = at_side (unused_right ss) n at_most sides.clean i h;
      }

  -- and with the formulas and rules behind it
  side_passes : (i : ℕ) → i < n → Passes bs (side_block i)
  side_passes i h = ahead_passes ss (rule_blocks given) i (omega arith) (omega arith) (alone i h)

  -- ---- 5 and 6
  -- a side of the design is spelled by its block, or rests
  pub same_side : (i : ℕ) → i < n → side (design (ss ++ rule_blocks given)) i ≡ side_in ss (side_block i)
  same_side i h =
      held_side bs i (omega arith) (omega (arith, held_is ss n long given few_forms few_rules)) ∙ ahead_side ss (rule_blocks given) i (omega arith) (omega arith) (alone i h)

  -- so a test of every side is one of the sides that the blocks spell
  each_side : (p : Side → Bool) → all (λ b. p (side_in ss b)) (take n side_blocks) ≡ true → p resting ≡ true → all p (design bs).sides ≡ true
  each_side p e r =
      all_true p [] (design bs).sides (λ i h.
      let l : i < side_count = omega (arith, sides_length bs) in
      elim (dec_lt i n) [
        | yes y ↦ ap p (same_side i y) ∙ at_side (λ b. p (side_in ss b)) n at_most e i y
        | no o ↦ ap p (resting_side bs i l (omega (arith, held_is ss n long given few_forms few_rules))) ∙ r
      ])

  -- ---- a test of every block
  each_block : (p : Block → Bool) → ((i : ℕ) → i < n → p (side_block i) ≡ true) → p (formulas n) ≡ true → p (rules n) ≡ true → T (all p (design_blocks (held bs)))
  each_block p s f r =
      true_T (all p (design_blocks (held bs)))
      (ap (λ k. all p (design_blocks k)) (held_is ss n long given few_forms few_rules) ∙ blocks_pass n at_most p s f r)

  -- ---- all eight
  pub accepted : ((a : Actl) → In a given → Labelled a) → design_refusal (ss ++ rule_blocks given) ≡ 0
  accepted labelled =
      let f = forms_pass ss n long given few_forms few_rules in
      let r = rules_pass ss n long given few_forms few_rules in
      not_refused bs
      record {
        whole = whole ss n long given few_forms few_rules enough at_most;
        checks = each_block (check_right bs) (λ i h. (side_passes i h).checked) f.checked r.checked;
        headers = each_block (header_right bs) (λ i h. (side_passes i h).headed) f.headed r.headed;
        counts = each_block (count_right bs) (λ i h. (side_passes i h).counted) f.counted r.counted;
        states = true_T (all side_right (design bs).sides) (each_side side_right sides.states resting_states);
        kinds = true_T (all kinds_right (design bs).sides) (each_side kinds_right sides.kinds resting_kinds);
        formulas = true_T (formulas_right bs) (formulas_pass ss n long given few_forms few_rules labelled);
        unused = each_block (unused_right bs) (λ i h. (side_passes i h).clean) f.clean r.clean;
      }
