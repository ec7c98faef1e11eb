-- A refutation plays the sides against any matched converter: it says what they show at each joint state (a delayed side sends or waits as it likes), and
-- whatever the converter answers, the rules come to contradict the labels, or an until never comes. A refuted design has no converter.
use mathlib.Core.Path.{◌≡◌, subst, subst⁻¹, ◌∙◌}
use mathlib.Core.Bool.{Bool, true, false, ◌&&◌, cond}
use mathlib.Core.Logic.{⊎_elim}
use mathlib.Core.List.Memᴰ.{cases_cons as in-cases}
use mathlib.Core.List.Memᴰ.{head as here}
use mathlib.Core.List.Memᴰ.{tail as there}
use mathlib.Core.List.{List, [], ◌∷◌, Memᴰ as In}
use Prim.Native.Nat.{ℕ, zero, suc, ◌<◌}
use native.Mathlib.Omega.{arith}
use native.Mathlib.Nat.{not-suc-le-zero}
use lib.Dec.{T, eqb, eqb→eq}
use lib.ListN.{length, get_or}
use Rattle.model.specs.Events.{Event, shows}
use Rattle.model.specs.Sides.{Side}
use Rattle.model.specs.Joined.{zeros, labelled}
use Rattle.model.specs.Converters.{Converter, node, side_events, Matched}
use Rattle.model.specs.Formulas.{Form, truth, falsity, prop, nprop, conj, disj, ax, au, ag, LowerForm}
use Rattle.model.specs.Designs.{Design, WellFormed, NoneWorks}
use Rattle.model.specs.Positions.{any}
use Rattle.model.specs.Judged.{all, same_events, same_states, Joint, joint_moves, Kripke, kripke}
use Rattle.model.proofs.Bools.{and_both, T_true}
use Rattle.model.proofs.Lists.{all_in, any_in, not_all, in_map}
use Rattle.model.proofs.Labelling.{UntilAt}
use Rattle.model.proofs.Right.{LabelAt, Labelled}
use Rattle.model.proofs.Joint.{AllRegular, all_regular}
use Rattle.model.proofs.Graph.{Serial}
use Rattle.model.proofs.Alone.{next_of, serial, answers}
use Rattle.model.proofs.AloneLabels.{labelling, right_labels}
use Rattle.model.proofs.JointMoves.{same_events_eq, eq_same_events, same_states_eq, joint_listed, listed_joint}
use Rattle.model.proofs.Judged.{kept_at_start, label_keeps}
use Rattle.model.proofs.Ways.{ways, ways_all, Due, way, way_all}

-- ---- refutations, and their test
-- what the sides show at a joint state
pub record Choice : Type 0 where
  pub at : List ℕ
  pub show : List Event

abbrev pub Strategy : Type 0
Strategy = List Choice

pub data Refutation : Type 0 where
  -- within so many ticks what is owed contradicts the labels
  clash : ℕ → Strategy → Refutation
  -- the until with this number is a rule, and its second part fails at every joint state of the strategy, which the play never leaves
  waits : ℕ → Strategy → Refutation

-- the choice at a joint state, the first that speaks of it
unfoldable pub show_at : Strategy → List ℕ → List Event
show_at [] s = []
show_at (e ∷ p) s = cond (same_states e.at s) e.show (show_at p s)

-- the joint moves that show xs
unfoldable pub showing : List Event → List Joint → List Joint
showing xs [] = []
showing xs (j ∷ js) = cond (same_events (shows j.events) xs) (j ∷ showing xs js) (showing xs js)

-- there is a joint move from s that shows xs, and each such leads to a joint state that passes a test
unfoldable pub every_answer : List Side → List ℕ → List Event → (List ℕ → Bool) → Bool
every_answer Ss s xs t = any (λ j. true) (showing xs (joint_moves Ss s)) && all (λ j. t j.targets) (showing xs (joint_moves Ss s))

-- with the formulas m owed at s, the converter has lost within k ticks
unfoldable pub lost : Design → Strategy → ℕ → List ℕ → List ℕ → Bool
lost D p zero s m = all (λ n. false) (ways_all D.forms (labelled D.sides s) m)
lost D p (suc k) s m = all (λ n. every_answer D.sides s (show_at p s) (λ t. lost D p k t n)) (ways_all D.forms (labelled D.sides s) m)

-- the strategy speaks of a joint state
unfoldable pub covers : Strategy → List ℕ → Bool
covers p s = any (λ e. same_states e.at s) p

-- formula b fails by the labels at each joint state of the strategy, and every answer stays among them
unfoldable pub withheld : Design → Strategy → ℕ → Bool
withheld D p b = all (λ e. all (λ n. false) (ways D.forms (labelled D.sides e.at) b) && every_answer D.sides e.at e.show (covers p)) p

-- the same, of the second part of an until
unfoldable pub never : Design → Strategy → Form → Bool
never D p truth = false
never D p falsity = false
never D p (prop q) = false
never D p (nprop q) = false
never D p (conj a b) = false
never D p (disj a b) = false
never D p (ax a) = false
never D p (au a b) = withheld D p b
never D p (ag a) = false

-- the test of a refutation, from the start and the rules
unfoldable pub refutes : Design → Refutation → Bool
refutes D (clash k p) = lost D p k (zeros D.sides) D.rules
refutes D (waits u p) = any (eqb u) D.rules && covers p (zeros D.sides) && never D p (get_or D.forms u truth)

-- ---- members of `showing`: the joint moves that show xs, and no others
in_showing : (xs : List Event) (j : Joint) (js : List Joint) → In j js → shows j.events ≡ xs → In j (showing xs js)
unfolding showing
in_showing xs j [] i e = elim i [ ]
in_showing xs j (k ∷ js) i e =
    ⊎_elim
    (λ (h : j ≡ k).
    let t : T (same_events (shows k.events) xs) = eq_same_events (shows k.events) xs (subst (λ (x : Joint). shows x.events ≡ xs) h e) in
    subst⁻¹ (λ (b : Bool). In j (cond b (k ∷ showing xs js) (showing xs js))) (T_true (same_events (shows k.events) xs) t) (here h))
    (λ (h : In j js). later (same_events (shows k.events) xs) (in_showing xs j js h e))
    (in-cases i)
  where
    later : (b : Bool) → In j (showing xs js) → In j (cond b (k ∷ showing xs js) (showing xs js))
    later true h = there h
    later false h = h

of_showing : (xs : List Event) (j : Joint) (js : List Joint) → In j (showing xs js) → In j js × (shows j.events ≡ xs)
unfolding showing
of_showing xs j [] i = elim i [ ]
of_showing xs j (k ∷ js) i = by (same_events (shows k.events) xs) (same_events_eq (shows k.events) xs) (of_showing xs j js) i
  where
    by : (b : Bool) → (T b → shows k.events ≡ xs) → (In j (showing xs js) → In j js × (shows j.events ≡ xs)) → In j (cond b (k ∷ showing xs js) (showing xs js)) → In j (k ∷ js) × (shows j.events ≡ xs)
    by true right ih h =
        ⊎_elim
        (λ (e : j ≡ k). (here e, subst⁻¹ (λ (x : Joint). shows x.events ≡ xs) e (right tt)))
        (λ (l : In j (showing xs js)). let w = ih l in (there w.0, w.1))
        (in-cases h)
    by false right ih h = let w = ih h in (there w.0, w.1)

-- what `withheld` says of each joint state that the strategy covers
held_off : (D : Design) (p : Strategy) (b : ℕ) → T (withheld D p b) → (s : List ℕ) → T (covers p s)
    → (xs : List Event) × T (all (λ n. false) (ways D.forms (labelled D.sides s) b)) × T (every_answer D.sides s xs (covers p))
unfolding withheld covers
held_off D p b t s i =
    let e = any_in (λ e. same_states e.at s) p i in
    let test : List ℕ → List Event → Bool = λ x xs. all (λ n. false) (ways D.forms (labelled D.sides x) b) && every_answer D.sides x xs (covers p) in
    let at_s = subst (λ (x : List ℕ). T (test x e.0.show)) (same_states_eq e.0.at s e.2) (all_in (λ e. test e.at e.show) e.1 t) in
    let w = and_both (all (λ n. false) (ways D.forms (labelled D.sides s) b)) (every_answer D.sides s e.0.show (covers p)) at_s in
    (e.0.show, w.0, w.1)

-- ---- against a matched converter
module _ (Ss : List Side) (reg : AllRegular Ss) (C : Converter) (m : Matched Ss C) where
  -- the converter's answer to a show leads to a state that passes the test
  answered : (c : ℕ) → c < length C → (xs : List Event) (t : List ℕ → Bool) → T (every_answer Ss (node C c).names xs t)
      → (d : ℕ) × (d < length C) × In d ((kripke Ss C).succs c) × T (t (node C d).names)
  unfolding every_answer
  answered c h xs t tests =
      let s = (node C c).names in
      let w = and_both (any (λ j. true) (showing xs (joint_moves Ss s))) (all (λ j. t j.targets) (showing xs (joint_moves Ss s))) tests in
      let j = any_in (λ j. true) (showing xs (joint_moves Ss s)) w.0 in
      let o = of_showing xs j.0 (joint_moves Ss s) j.1 in
      let a = answers Ss reg C (node C c) (m.each c h) j.0.events j.0.targets (listed_joint Ss s j.0 o.0) in
      let e = a.taken in
      let i = in_showing xs (record { events = side_events e; targets = (node C e.next).names }) (joint_moves Ss s) (joint_listed Ss s (side_events e) (node C e.next).names a.leads) (a.showing ∙ o.1) in
      (e.next, ((m.each c h).follows e a.there).0, in_map next_of a.there, all_in (λ (j : Joint). t j.targets) i w.1)

module _ (D : Design) (wf : WellFormed D) (C : Converter) (m : Matched D.sides C) (v : ℕ → ℕ → Bool) where
  -- the converter by itself
  abbrev own : Kripke
  own = kripke D.sides C

  abbrev succ : Serial own
  succ = serial D.sides C m

  module _ (lab : Labelled own succ D.forms v) where
    -- a matched converter that keeps what is owed doesn't lose
    lost_right : (p : Strategy) (k : ℕ) (c : ℕ) → c < length C → (o : List ℕ) → Due own succ D.forms v wf.lower lab c o → T (lost D p k (node C c).names o) → ⊥
    unfolding lost
    lost_right p zero c h o due t =
        let w = way_all own succ D.forms v wf.lower lab c h o due in
        all_in (λ n. false) w.1 t
    lost_right p (suc k) c h o due t =
        let s = (node C c).names in
        let w = way_all own succ D.forms v wf.lower lab c h o due in
        let e = all_in (λ n. every_answer D.sides s (show_at p s) (λ u. lost D p k u n)) w.1 t in
        let a = answered D.sides (all_regular D.sides wf.each_side) C m c h (show_at p s) (λ u. lost D p k u w.0) e in
        lost_right p k a.0 a.1 w.0 (λ g i. let q = w.2 g i in (q.0, q.1 a.0 a.2)) a.3

    -- at a state of the converter that the strategy covers, an until whose second part is withheld doesn't hold: its rank would fall for ever
    withheld_right : (p : Strategy) (a b u : ℕ) → b < length D.forms → T (withheld D p b) → (U : UntilAt own (v a) (v b) (v u)) (n c : ℕ) → c < length C → U.rank c < n
        → T (covers p (node C c).names) → T (v u c) → ⊥
    withheld_right p a b u hb t U zero c h lt i hold = not-suc-le-zero lt
    withheld_right p a b u hb t U (suc n) c h lt i hold =
        let q = held_off D p b t (node C c).names i in
        ⊎_elim
        (λ (x : T (v b c)). let w = way own succ D.forms v wf.lower lab c h b hb x in all_in (λ n. false) w.1 q.1)
        (λ (x : T (v a c) × ((d : ℕ) → In d (own.succs c) → T (v u d) × (U.rank d < U.rank c))).
        let y = answered D.sides (all_regular D.sides wf.each_side) C m c h q.0 (covers p) q.2 in
        let z = x.1 y.0 y.2 in
        let less : U.rank y.0 < U.rank c = z.1 in
        withheld_right p a b u hb t U n y.0 y.1 (omega arith) y.3 z.0)
        (U.holds c h hold)

    -- the same, of a formula by its kind
    never_right : (p : Strategy) (u : ℕ) → u < length D.forms → (r : Form) → LowerForm u r → LabelAt own v u r → T (never D p r) → (c : ℕ) → c < length C → T (covers p (node C c).names) → T (v u c) → ⊥
    unfolding never
    never_right p u hu (au a b) low l t c h i hold = withheld_right p a b u (omega arith) t l (suc (l.rank c)) c h (omega arith) i hold
    never_right p u hu truth low l t c h i hold = t
    never_right p u hu falsity low l t c h i hold = t
    never_right p u hu (prop q) low l t c h i hold = t
    never_right p u hu (nprop q) low l t c h i hold = t
    never_right p u hu (conj a b) low l t c h i hold = t
    never_right p u hu (disj a b) low l t c h i hold = t
    never_right p u hu (ax a) low l t c h i hold = t
    never_right p u hu (ag a) low l t c h i hold = t

    -- under a refutation the rules don't all hold at the start
    refutes_right : (R : Refutation) → T (refutes D R) → T (all (λ r. v r 0) D.rules) → ⊥
    unfolding refutes
    refutes_right (clash k p) t hold =
        lost_right p k 0 m.some_node D.rules (λ r i. (wf.rules_there r i, all_in (λ r. v r 0) i hold)) (subst⁻¹ (λ (s : List ℕ). T (lost D p k s D.rules)) m.starts t)
    refutes_right (waits u p) t hold =
        let w = and_both (any (eqb u) D.rules && covers p (zeros D.sides)) (never D p (get_or D.forms u truth)) t in
        let x = and_both (any (eqb u) D.rules) (covers p (zeros D.sides)) w.0 in
        let r = any_in (eqb u) D.rules x.0 in
        let i : In u D.rules = subst⁻¹ (λ (y : ℕ). In y D.rules) (eqb→eq u r.0 r.2) r.1 in
        let hu = wf.rules_there u i in
        never_right p u hu (get_or D.forms u truth) (wf.lower u hu) (lab u hu) w.1 0 m.some_node (subst⁻¹ (λ (s : List ℕ). T (covers p s)) m.starts x.1) (all_in (λ r. v r 0) i hold)

-- a refuted design has no converter, of whatever size
pub refuted_none : (D : Design) → WellFormed D → (R : Refutation) → T (refutes D R) → NoneWorks D
refuted_none D wf R t C m =
    let right = right_labels D.sides D.forms wf.lower C m in
    let w = not_all (kept_at_start D C) D.rules (refutes_right D wf C m (labelling D.sides D.forms C) right R t) in
    (w.0, w.1, λ k. w.2 ((label_keeps D wf C m w.0 (wf.rules_there w.0 w.1)).1 k))
