-- The waits that are computed are those of the path meaning: where a converter works, the wait of a rule A(a U b) is the least number of ticks within which every path of the
-- converter and the sides moving together has reached b; it is 0 exactly where b holds at the start, and less than the number of converter states.
use mathlib.Core.Path.{◌≡◌, refl, sym, ap, subst, subst⁻¹, ◌∙◌}
use mathlib.Core.Bool.{Bool}
use mathlib.Core.Logic.Iff
use mathlib.Core.Logic.{◌↔◌}
use Prim.Native.Nat.{ℕ, ◌≤◌, ◌<◌}
use native.Mathlib.Decide.{dec_lt}
use native.Mathlib.Omega.{arith}
use lib.Dec.{T}
use lib.ListN.{length, get_or}
use Rattle.model.specs.Actl.{Actl, System}
use Rattle.model.specs.Converters.{Converter, Matched}
use Rattle.model.specs.Formulas.{Form, truth, falsity, prop, nprop, conj, disj, ax, au, ag, formula, LowerForm}
use Rattle.model.specs.Designs.{Design, WellFormed, Keeps, together, start}
use Rattle.model.specs.Judged.{Kripke, kripke, until_by, labels}
use Rattle.model.specs.Waits.{Within, LeastWithin, WaitIs, wait_by, wait_of}
use Rattle.model.proofs.Graph.{system, stays}
use Rattle.model.proofs.Labels.{until_rank, until_rank_holds, until_rank_le, until_rank_least, until_rank_bound, until_labels}
use Rattle.model.proofs.Bounded.{until_within}
use Rattle.model.proofs.Joint.{all_regular}
use Rattle.model.proofs.Alone.{serial, within_start}
use Rattle.model.proofs.AloneLabels.{label_holds, holds_label}
use Rattle.model.proofs.Judged.{label_keeps}

-- two numbers that are the least are the same
pub one_least : {M : System} {a b : Actl} {s : M.State} {w v : ℕ} → LeastWithin M a b s w → LeastWithin M a b s v → w ≡ v
one_least {w = w} {v = v} p q =
    elim (dec_lt w v) [
      | yes lt ↦ absurd (q.least w (omega arith) p.reached)
      | no ge ↦ elim (dec_lt v w) [ yes lt ↦ absurd (p.least v (omega arith) q.reached) | no le ↦ omega arith ]
    ]

module _ (D : Design) (wf : WellFormed D) (C : Converter) (m : Matched D.sides C) where
  -- the converter's own structure, and the labels of the formulas there
  abbrev alone : Kripke
  alone = kripke D.sides C

  abbrev label : ℕ → ℕ → Bool
  label = labels alone D.forms

  -- rounds over the labels are the path meaning
  module _ (a b : ℕ) (ha : a < length D.forms) (hb : b < length D.forms) where
    reached_alone : (k : ℕ) → T (until_by alone (label a) (label b) k 0) ↔ Within (system alone) (formula D.forms a) (formula D.forms b) k 0
    reached_alone k =
        let G = serial D.sides C m in
        let says = until_within alone (label a) (label b) G k 0 m.some_node in (
          (λ t r.
              let w = says.0 t r in
              (w.0, w.1, label_holds D.sides D.forms wf.lower C m (r.at w.0) b (stays alone G 0 m.some_node r w.0) hb w.2, λ i h. label_holds D.sides D.forms wf.lower C m (r.at i) a (stays alone G 0 m.some_node r i) ha (w.3 i h))),
          (λ all_r. says.1 (λ r.
              let w = all_r r in
              (w.0, w.1, holds_label D.sides D.forms wf.lower C m (r.at w.0) b (stays alone G 0 m.some_node r w.0) hb w.2, λ i h. holds_label D.sides D.forms wf.lower C m (r.at i) a (stays alone G 0 m.some_node r i) ha (w.3 i h)))),
        )

    reached_together : (k : ℕ) → T (until_by alone (label a) (label b) k 0) ↔ Within (together D.sides C) (formula D.forms a) (formula D.forms b) k (start D.sides)
    reached_together k = Iff.trans (reached_alone k) (within_start D.sides (all_regular D.sides wf.each_side) C m (formula D.forms a) (formula D.forms b) k)

    -- so the rank of an until that holds is the least number of ticks
    least_together : T (until_by alone (label a) (label b) alone.size 0) → LeastWithin (together D.sides C) (formula D.forms a) (formula D.forms b) (start D.sides) (until_rank alone (label a) (label b) 0)
    least_together t =
        record {
          reached = (reached_together (until_rank alone (label a) (label b) 0)).0 (until_rank_holds alone (label a) (label b) 0 t);
          least = λ k lt w. until_rank_least alone (label a) (label b) 0 k t (omega arith) ((reached_together k).1 w);
        }

  -- ---- the wait of a formula that the converter keeps
  module _ (f : ℕ) (there : f < length D.forms) (keeps : Keeps D C f) where
    module _ (a b : ℕ) (e : get_or D.forms f truth ≡ au a b) where
      lower : (a < f) × (b < f)
      lower = subst (LowerForm f) e (wf.lower f there)

      -- it is labelled, so its rounds settle it
      holds : T (until_by alone (label a) (label b) alone.size 0)
      holds = subst T (ap (λ g. g 0) (until_labels alone (serial D.sides C m) D.forms wf.lower f there a b e)) ((label_keeps D wf C m f there).1 keeps)

      is_rank : wait_of D C f ≡ until_rank alone (label a) (label b) 0
      unfolding until_rank
      is_rank = ap (wait_by alone label) e

      pub wait_least : LeastWithin (together D.sides C) (formula D.forms a) (formula D.forms b) (start D.sides) (wait_of D C f)
      wait_least = subst⁻¹ (λ w. LeastWithin (together D.sides C) (formula D.forms a) (formula D.forms b) (start D.sides) w) is_rank (least_together a b (omega (arith, lower)) (omega (arith, lower)) holds)

      -- 0 exactly where b holds at the start
      pub wait_zero : (wait_of D C f ≡ 0) ↔ Keeps D C b
      unfolding until_by
      wait_zero =
          let kept = label_keeps D wf C m b (omega (arith, lower)) in (
            (λ z. kept.0 (subst (λ k. T (until_by alone (label a) (label b) k 0)) (sym is_rank ∙ z) (until_rank_holds alone (label a) (label b) 0 holds))),
            (λ k. let le : until_rank alone (label a) (label b) 0 ≤ 0 = until_rank_le alone (label a) (label b) 0 0 (omega arith) (kept.1 k) in omega (arith, is_rank)),
          )

      -- and never above the number of converter states less one
      pub wait_below : wait_of D C f < length C
      wait_below = omega (arith, is_rank, until_rank_bound alone (label a) (label b) (serial D.sides C m) 0 m.some_node holds)

    -- by its kind
    pub wait_is : WaitIs D C (get_or D.forms f truth) (wait_of D C f)
    wait_is = by (get_or D.forms f truth) refl
      where
        by : (q : Form) → get_or D.forms f truth ≡ q → WaitIs D C q (wait_by alone label q)
        by truth e = refl
        by falsity e = refl
        by (prop p) e = refl
        by (nprop p) e = refl
        by (conj a b) e = refl
        by (disj a b) e = refl
        by (ax a) e = refl
        by (au a b) e = subst (λ w. LeastWithin (together D.sides C) (formula D.forms a) (formula D.forms b) (start D.sides) w) (ap (wait_by alone label) e) (wait_least a b e)
        by (ag a) e = refl
