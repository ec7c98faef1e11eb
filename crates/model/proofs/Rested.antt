-- A design and the same with the resting side behind its sides have the same verdicts: with zeros added a converter keeps the rules that it kept, and there are no
-- other converters. Then the same of two sides.
use mathlib.Core.Path.{◌≡◌, refl, sym, ap, subst⁻¹, ◌∙◌}
use mathlib.Core.Logic.{◌↔◌, ⊎_elim}
use mathlib.Core.List.Memᴰ.{append_cases as in-append}
use mathlib.Core.List.Memᴰ.{append_left as in_left}
use mathlib.Core.List.Memᴰ.{cases_cons as in-cases}
use mathlib.Core.List.Memᴰ.{eq_of_singleton as in_one}
use mathlib.Core.List.{List, [], ◌∷◌, map, Memᴰ as In}
use Prim.Native.Nat.{ℕ, zero, suc, ◌+◌, ◌*◌}
use native.Mathlib.Omega.{arith}
use lib.ListN.{length, length-append, get_or}
use Rattle.model.specs.Sides.{Side, any_sent, WellFormedSide}
use Rattle.model.specs.Joined.{Names}
use Rattle.model.specs.Converters.{Edge, Converter, node, side_events, Matched}
use Rattle.model.specs.Actl.{Actl, Holds}
use Rattle.model.specs.Formulas.{Form, truth, falsity, prop, nprop, conj, disj, ax, au, ag, formula, PropForm, Propositions}
use Rattle.model.specs.Designs.{Design, WellFormed, together, start, Keeps, Works, NoneWorks}
use Rattle.model.specs.Positions.{any, kept, kept_count, joint_count, positions}
use Rattle.model.specs.Judged.{all, judged}
use Rattle.model.specs.Resting.{resting, with_resting, with_zero, with_tick, rested_edge, rested, rested_design}
use Rattle.model.proofs.Lists.{of_map, in_map}
use Rattle.model.proofs.Maps.{Map, Back, up, down}
use Rattle.model.proofs.Joint.{AllRegular, all_regular, zeros_there, targets_there}
use Rattle.model.proofs.Formed.{all_below, distinct?, state?, kind?, side?, side_formed}
use Rattle.model.proofs.Judged.{FailsRule, Judgement, says_accepted, says_unmatched, says_violated, judgement, judged_accepts, judged_unmatched, judged_violated}
use Rattle.model.proofs.Resting.{zero_off, tick_off, zeros_rested, joint_rested, of_joint_rested, duals_rested, labelled_rested}
use Rattle.model.proofs.RestedMatched.{matched_rested, matched_is_rested}

-- ---- the path meaning
-- the transitions of a converter state, there or not
edges_rested : (C : Converter) (c : ℕ) → (node (rested C) c).edges ≡ map rested_edge (node C c).edges
edges_rested [] c = refl
edges_rested (n ∷ C) zero = refl
edges_rested (n ∷ C) (suc c) = edges_rested C c

module _ (Ss : List Side) (reg : AllRegular Ss) (C : Converter) where
  -- the sides in the states ss, and the resting side in its own
  rested_map : Map (together Ss C) (together (with_resting Ss) (rested C))
  rested_map = record {
    to = λ x. record { at = x.at; sides = with_zero x.sides };
    ok = λ x. Names Ss x.sides;
    kept = λ x y h w. targets_there Ss reg x.sides h (side_events w.0) y.sides w.3;
    same = λ x p h. labelled_rested Ss x.sides p h;
    forth = λ x y h w. (
      rested_edge w.0,
      rw (edges_rested C x.at) (in_map rested_edge w.1),
      w.2,
      rw (duals_rested w.0.events) (joint_rested Ss x.sides (side_events w.0) y.sides w.3),
    );
  }

  -- every step with the resting side is a step of the others
  back : Back (together Ss C) (together (with_resting Ss) (rested C)) rested_map
  unfolding rested_map
  back x z h w =
      let v = of_map rested_edge w.0 (node C x.at).edges (rw (edges_rested C x.at) at w.1) in
      let r = of_joint_rested Ss (with_zero x.sides) (side_events w.0) z.sides w.3 in
      let names : r.names ≡ x.sides = zero_off r.names x.sides (sym r.names_are) in
      let carried : with_tick (side_events v.0) ≡ side_events w.0 = sym (duals_rested v.0.events) ∙ ap side_events v.2 in
      let events : r.events ≡ side_events v.0 = tick_off r.events (side_events v.0) (sym r.events_are ∙ sym carried) in
      let next : v.0.next ≡ z.at = ap (λ (e : Edge). e.next) v.2 ∙ w.2 in
      (record { at = z.at; sides = r.targets }, (v.0, v.1, next, rw (names, events) at r.move), λ i. record { at = z.at; sides = sym r.targets_are i })

  -- a formula, whichever labels it names, holds at the start where it held
  pub holds_rested : (t : Actl) → Holds (together Ss C) t (start Ss) ↔ Holds (together (with_resting Ss) (rested C)) t (start (with_resting Ss))
  unfolding rested_map
  holds_rested t =
      let M = together Ss C in
      let N = together (with_resting Ss) (rested C) in
      let h = zeros_there Ss reg in
      rw (zeros_rested Ss) (up M N rested_map back t (start Ss) h, down M N rested_map t (start Ss) h)

-- ---- works, and none works
module _ (D : Design) (wf : (S : Side) → In S D.sides → WellFormedSide S) where
  module _ (C : Converter) where
    matches : Matched D.sides C ↔ Matched (with_resting D.sides) (rested C)
    matches = matched_rested D.sides (all_regular D.sides wf) C

    keeps_rested : (r : ℕ) → Keeps D C r ↔ Keeps (rested_design D) (rested C) r
    keeps_rested r = holds_rested D.sides (all_regular D.sides wf) C (formula D.forms r)

    pub works_rested : Works D C ↔ Works (rested_design D) (rested C)
    works_rested = (
      (λ w. record { matched = matches.0 w.matched; keeps = λ r i. (keeps_rested r).0 (w.keeps r i) }),
      (λ w. record { matched = matches.1 w.matched; keeps = λ r i. (keeps_rested r).1 (w.keeps r i) }),
    )

    fails_rested : FailsRule D C ↔ FailsRule (rested_design D) (rested C)
    fails_rested = ((λ f. (f.0, f.1, λ k. f.2 ((keeps_rested f.0).1 k))), (λ f. (f.0, f.1, λ k. f.2 ((keeps_rested f.0).0 k))))

  pub none_works_rested : NoneWorks D ↔ NoneWorks (rested_design D)
  none_works_rested = (
    (λ none C m.
        let r = matched_is_rested D.sides C m in
        subst⁻¹ (FailsRule (rested_design D)) r.1 ((fails_rested r.0).0 (none r.0 ((matches r.0).1 (rw r.1 at m))))),
    (λ none C m. (fails_rested C).1 (none (rested C) ((matches C).0 m))),
  )

-- ---- the judge's answer
resting_formed : WellFormedSide resting
unfolding side? all_below all state? distinct? kind? any any_sent
resting_formed = side_formed resting tt

-- a label of one of n sides is one of n + 1
prop_more : (n : ℕ) (q : Form) → PropForm n q → PropForm (n + 1) q
prop_more n truth h = tt
prop_more n falsity h = tt
prop_more n (prop p) h = omega arith
prop_more n (nprop p) h = omega arith
prop_more n (conj a b) h = tt
prop_more n (disj a b) h = tt
prop_more n (ax a) h = tt
prop_more n (au a b) h = tt
prop_more n (ag a) h = tt

module _ (D : Design) where
  -- A design is well formed exactly where it is with the resting side and names no label of that side.
  pub formed_rested : WellFormed D ↔ (WellFormed (rested_design D) × Propositions (length D.sides) D.forms)
  formed_rested = (
    (λ wf. (
      record {
        each_side = λ S i. ⊎_elim (λ (j : In S D.sides). wf.each_side S j) (λ (j : In S (resting ∷ [])). rw (in_one j) resting_formed) (in-append D.sides i);
        lower = wf.lower;
        propositions = rw (length-append D.sides (resting ∷ [])) (λ k h. prop_more (length D.sides) (get_or D.forms k truth) (wf.propositions k h));
        rules_there = wf.rules_there;
      },
      wf.propositions,
    )),
    (λ w. record { each_side = λ S i. w.0.each_side S (in_left (resting ∷ []) i); lower = w.0.lower; propositions = w.1; rules_there = w.0.rules_there }),
  )

module _ (D : Design) (wf : WellFormed D) where
  pub judged_rested : (C : Converter) → judged D C ≡ judged (rested_design D) (rested C)
  judged_rested C = by (judgement D wf C)
    where
      wf⁺ : WellFormed (rested_design D)
      wf⁺ = ((formed_rested D).0 wf).0

      by : Judgement D C → judged D C ≡ judged (rested_design D) (rested C)
      by (says_accepted e w) = e ∙ sym ((judged_accepts (rested_design D) wf⁺ (rested C)).1 ((works_rested D wf.each_side C).0 w))
      by (says_unmatched e n) = e ∙ sym ((judged_unmatched (rested_design D) wf⁺ (rested C)).1 (λ m. n ((matches D wf.each_side C).1 m)))
      by (says_violated e m f) = e ∙ sym ((judged_violated (rested_design D) wf⁺ (rested C)).1 ((matches D wf.each_side C).0 m, (fails_rested D wf.each_side C).0 f))

-- ---- positions
joint_count_rested : (Ss : List Side) → joint_count (with_resting Ss) ≡ joint_count Ss
unfolding joint_count
joint_count_rested [] = refl
joint_count_rested (S ∷ Ss) = ap (λ (k : ℕ). length S * k) (joint_count_rested Ss)

pub positions_rested : (D : Design) → positions (rested_design D) ≡ positions D
unfolding positions kept_count kept
positions_rested D = simp (joint_count_rested D.sides)

-- ---- two sides
module _ (A B : Side) (wA : WellFormedSide A) (wB : WellFormedSide B) where
  both_formed : (S : Side) → In S (A ∷ B ∷ []) → WellFormedSide S
  both_formed S i = ⊎_elim (λ (e : S ≡ A). rw e wA) (λ (j : In S (B ∷ [])). rw (in_one j) wB) (in-cases i)

  -- matched to both exactly where matched, with zeros added, to both and the resting side
  pub two_matched : (C : Converter) → Matched (A ∷ B ∷ []) C ↔ Matched (A ∷ B ∷ resting ∷ []) (rested C)
  two_matched C = matched_rested (A ∷ B ∷ []) (all_regular (A ∷ B ∷ []) both_formed) C

  -- and every converter that is matched to the three is one with zeros added
  pub two_matched_only : (C : Converter) → Matched (A ∷ B ∷ resting ∷ []) C → (D : Converter) × (C ≡ rested D) × Matched (A ∷ B ∷ []) D
  two_matched_only C m = let r = matched_is_rested (A ∷ B ∷ []) C m in (r.0, r.1, (two_matched r.0).1 (rw r.1 at m))

  pub two_holds : (C : Converter) (t : Actl) → Holds (together (A ∷ B ∷ []) C) t (start (A ∷ B ∷ []))
      ↔ Holds (together (A ∷ B ∷ resting ∷ []) (rested C)) t (start (A ∷ B ∷ resting ∷ []))
  two_holds C t = holds_rested (A ∷ B ∷ []) (all_regular (A ∷ B ∷ []) both_formed) C t

module _ (A B : Side) (fs : List Form) (rs : List ℕ) where
  abbrev pub two_sided : Design
  two_sided = record { sides = A ∷ B ∷ []; forms = fs; rules = rs }

  abbrev pub three_sided : Design
  three_sided = record { sides = A ∷ B ∷ resting ∷ []; forms = fs; rules = rs }

  -- the design of two is well formed where that of three is and no formula names a label over 31
  pub two_formed : WellFormed two_sided ↔ (WellFormed three_sided × Propositions 2 fs)
  two_formed = formed_rested two_sided

  pub two_positions : positions three_sided ≡ positions two_sided
  two_positions = positions_rested two_sided

  -- it gets its old verdicts, with zeros added to the converters
  module _ (wf : WellFormed two_sided) where
    pub two_judged : (C : Converter) → judged two_sided C ≡ judged three_sided (rested C)
    two_judged C = judged_rested two_sided wf C

    pub two_none : NoneWorks two_sided ↔ NoneWorks three_sided
    two_none = none_works_rested two_sided wf.each_side
