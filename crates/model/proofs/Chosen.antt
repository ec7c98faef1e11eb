-- Choices of the delayed sides. What the sides show tells what each delayed side chose and is told by it; so exactly one transition for each choice is exactly one
-- for each thing that the sides can show.
use mathlib.Core.Path.{◌≡◌, refl, sym, ap, subst, ◌∙◌}
use mathlib.Core.Bool.{Bool, true, false}
use mathlib.Core.Logic.{◌⊎◌, inl, inr, ⊎_elim, ◌↔◌}
use mathlib.Core.List.{List, [], ◌∷◌, map, Memᴰ as In}
use Prim.Native.Nat.{ℕ, zero, suc, ◌<◌}
use native.Mathlib.Omega.{arith}
use native.Mathlib.Nat.{not-suc-le-zero}
use lib.Dec.{T}
use lib.ListN.{length}
use Rattle.model.specs.Events.{Event, tick, sent, shown, shows}
use Rattle.model.specs.Sides.{Move, State, Side, state, Kind, input, output_only, delayed, IsKind, IsDelayed, kind}
use Rattle.model.specs.Joined.{JointMove}
use Rattle.model.specs.Converters.{Node, no_edge, edge, side_events, one_each, OneShowing, Fulfils}
use Rattle.model.specs.Lines.{nil, cons, MoveOfEach, Does, AsChosen, ExactlyOne, OneForEach, OfKinds}
use Rattle.model.proofs.Bools.{T_true}
use Rattle.model.proofs.StateKinds.{kind_only, sends_in, ticks_in, pair, show_known, one_shown}
use Rattle.model.proofs.Lists.{get_or_in}
use Rattle.model.proofs.NoneInput.{Follows}
use Rattle.model.proofs.Plain.{Moves, side_by_side}

-- ---- a joint move is a move of each side
abbrev pub events : List Move → List Event
events ms = map (λ (m : Move). m.event) ms

abbrev pub targets : List Move → List ℕ
targets ms = map (λ (m : Move). m.target) ms

pub joint_of : {Ss : List Side} {ss : List ℕ} {ms : List Move} → MoveOfEach Ss ss ms → JointMove Ss ss (events ms) (targets ms)
joint_of nil = tt
joint_of (cons i r) = (i, joint_of r)

of_moves : {Ss : List Side} {ss : List ℕ} {es : List Event} {ts : List ℕ} → Moves Ss ss es ts → (ms : List Move) × MoveOfEach Ss ss ms × (es ≡ events ms)
of_moves Moves.nil = ([], nil, refl)
of_moves (Moves.cons {e = e} {t = t} i r) = let w = of_moves r in (record { event = e; target = t } ∷ w.0, cons i w.1, ap (λ (l : List Event). e ∷ l) w.2)

pub of_joint : (Ss : List Side) (ss : List ℕ) (es : List Event) (ts : List ℕ) → JointMove Ss ss es ts → (ms : List Move) × MoveOfEach Ss ss ms × (es ≡ events ms)
of_joint Ss ss es ts a = of_moves (side_by_side Ss ss es ts a)

-- ---- one side
-- it did as it chose, if it is delayed
abbrev Chose : Kind → Bool → Event → Type 0
Chose k b e = k ≡ delayed → Does b e

delayed? : (k : Kind) → Dec (k ≡ delayed)
delayed? input = no (λ e. let z : ◌≡◌ {A = ℕ} 0 1 = cc in omega arith)
delayed? output_only = no (λ e. let z : ◌≡◌ {A = ℕ} 0 1 = cc in omega arith)
delayed? delayed = yes refl

-- the moves of a delayed state: one sent, and a tick
module _ (q : State) (h : IsDelayed q) where
  sends_or_ticks : (m : Move) → In m q.moves → (m ≡ h.0) ⊎ (m.event ≡ tick)
  sends_or_ticks m i = ⊎_elim (λ (e : m ≡ h.0). inl e) (λ (e : m ≡ h.1). inr (ap (λ (w : Move). w.event) e ∙ h.4)) (pair h.0 h.1 q.moves h.2 m i)

  one_sent : (m : Move) → In m q.moves → T (sent m.event) → m ≡ h.0
  one_sent m i t = ⊎_elim (λ (e : m ≡ h.0). e) (λ (e : m.event ≡ tick). absurd (rw e at t)) (sends_or_ticks m i)

  does_own : (m : Move) → In m q.moves → Does (sent m.event) m.event
  does_own m i = ⊎_elim (λ (e : m ≡ h.0). rw (e, T_true (sent h.0.event) h.3) h.3) (λ (e : m.event ≡ tick). rw e refl) (sends_or_ticks m i)

  does_same : (b : Bool) (m w : Move) → In m q.moves → In w q.moves → Does b m.event → Does b w.event → m.event ≡ w.event
  does_same true m w i j x y = ap (λ (v : Move). v.event) (one_sent m i x ∙ sym (one_sent w j y))
  does_same false m w i j x y = x ∙ sym y

  move_for : (b : Bool) → (m : Move) × In m q.moves × Does b m.event
  move_for true = (h.0, sends_in q h, h.3)
  move_for false = (h.1, ticks_in q h, h.4)

module _ (k : Kind) (q : State) (h : IsKind k q) where
  abbrev as_delayed : k ≡ delayed → IsDelayed q
  as_delayed e = subst (λ (x : Kind). IsKind x q) e h

  -- of moves m and w where m does as was chosen, w does so too exactly where it shows the same
  shown_chosen : (b : Bool) (m w : Move) → In m q.moves → In w q.moves → Chose k b m.event → (shown w.event ≡ shown m.event) ↔ Chose k b w.event
  shown_chosen b m w i j c = (
    (λ g e.
        let is : kind q ≡ delayed = kind_only k q h ∙ e in
        let same : m ≡ w = show_known k q h (λ n. let z : ◌≡◌ {A = ℕ} 0 1 = cc in omega arith) m w i j (sym g) in
        rw same at (c e)),
    (λ d. by (delayed? k) d),
  )
    where
      by : Dec (k ≡ delayed) → Chose k b w.event → shown w.event ≡ shown m.event
      by (yes e) d = ap shown (does_same q (as_delayed e) b w m j i (d e) (c e))
      by (no n) d = one_shown k q h (λ e. n (sym (kind_only k q h) ∙ e)) w m j i

  -- each move does as some choice says
  own_choice : (m : Move) → In m q.moves → Chose k (sent m.event) m.event
  own_choice m i e = does_own q (as_delayed e) m i

  -- and where there is a move, there is one for each choice
  choice_move : (m : Move) → In m q.moves → (b : Bool) → (w : Move) × In w q.moves × Chose k b w.event
  choice_move m i b = by (delayed? k)
    where
      by : Dec (k ≡ delayed) → (w : Move) × In w q.moves × Chose k b w.event
      by (yes e) = let w = move_for q (as_delayed e) b in (w.0, w.1, λ d. w.2)
      by (no n) = (m, i, λ e. absurd (n e))

-- ---- all sides
-- a choice is one of the first side and one of the others
module _ (k : Kind) (ks : List Kind) (b : Bool) (bs : List Bool) (e : Event) (es : List Event) where
  first_and_others : AsChosen (k ∷ ks) (b ∷ bs) (e ∷ es) ↔ (Chose k b e × AsChosen ks bs es)
  first_and_others = ((λ c. (c 0 (omega arith), λ i h. c (suc i) (omega arith))), both)
    where
      both : Chose k b e × AsChosen ks bs es → AsChosen (k ∷ ks) (b ∷ bs) (e ∷ es)
      both w zero h = w.0
      both w (suc i) h = w.1 i (omega arith)

-- of joint moves ms and ws where ms does as was chosen, ws does so too exactly where it shows the same
shows_chosen : {Ss : List Side} {ss : List ℕ} {ks : List Kind} {ms ws : List Move} → OfKinds Ss ss ks → MoveOfEach Ss ss ms → MoveOfEach Ss ss ws
    → (bs : List Bool) → length bs ≡ length ks → AsChosen ks bs (events ms) → (shows (events ws) ≡ shows (events ms)) ↔ AsChosen ks bs (events ws)
shows_chosen nil nil nil bs l c = ((λ g i h. absurd (not-suc-le-zero h)), (λ d. refl))
shows_chosen (cons h hs) (cons i is) (cons j js) [] l c = absurd (omega arith)
shows_chosen (cons {S = S} {s = s} {x = k} {xs = ks} h hs) (cons {x = m} {xs = ms} i is) (cons {x = w} {xs = ws} j js) (b ∷ bs) l c =
    let u = (first_and_others k ks b bs m.event (events ms)).0 c in
    let one = shown_chosen k (state S s) h b m w i j u.0 in
    let rest = shows_chosen hs is js bs (omega arith) u.1 in
    let parts = first_and_others k ks b bs w.event (events ws) in (
      (λ g.
          let p : shown w.event ≡ shown m.event = cc in
          let q : shows (events ws) ≡ shows (events ms) = cc in
          parts.1 (one.0 p, rest.0 q)),
      (λ d.
          let v = parts.0 d in
          let p = one.1 v.0 in
          let q = rest.1 v.1 in
          cc),
    )

-- each joint move does as some choice says
own_choices : {Ss : List Side} {ss : List ℕ} {ks : List Kind} {ms : List Move} → OfKinds Ss ss ks → MoveOfEach Ss ss ms
    → (bs : List Bool) × (length bs ≡ length ks) × AsChosen ks bs (events ms)
own_choices nil nil = ([], refl, λ i h. absurd (not-suc-le-zero h))
own_choices (cons {S = S} {s = s} {x = k} {xs = ks} h hs) (cons {x = m} {xs = ms} i is) =
    let r = own_choices hs is in
    let b = sent m.event in
    (b ∷ r.0, ap suc r.1, (first_and_others k ks b r.0 m.event (events ms)).1 (own_choice k (state S s) h m i, r.2))

-- and where there is one, there is one for each choice
choice_moves : {Ss : List Side} {ss : List ℕ} {ks : List Kind} {ms : List Move} → OfKinds Ss ss ks → MoveOfEach Ss ss ms → (bs : List Bool) → length bs ≡ length ks
    → (ws : List Move) × MoveOfEach Ss ss ws × AsChosen ks bs (events ws)
choice_moves nil nil bs l = ([], nil, λ i h. absurd (not-suc-le-zero h))
choice_moves (cons h hs) (cons i is) [] l = absurd (omega arith)
choice_moves (cons {S = S} {s = s} {x = k} {xs = ks} h hs) (cons {x = m} i is) (b ∷ bs) l =
    let w = choice_move k (state S s) h m i b in
    let r = choice_moves hs is bs (omega arith) in
    (w.0 ∷ r.0, cons w.1 r.1, (first_and_others k ks b bs w.0.event (events r.0)).1 (w.2, r.2))

-- ---- a converter state
-- exactly one transition with P is exactly one with Q, where P and Q agree
pub exactly_one_same : (n : Node) (P Q : List Event → Type 0)
    → ((j : ℕ) → j < length n.edges → P (side_events (edge n j)) ↔ Q (side_events (edge n j))) → ExactlyOne n P ↔ ExactlyOne n Q
exactly_one_same n P Q same = (
  (λ w. (w.0, w.1, (same w.0 w.1).0 w.2, λ k h q. w.3 k h ((same k h).1 q))),
  (λ w. (w.0, w.1, (same w.0 w.1).1 w.2, λ k h p. w.3 k h ((same k h).0 p))),
)

module _ (Ss : List Side) (n : Node) (ks : List Kind) (kinds : OfKinds Ss n.names ks) (follows : Follows Ss n) where
  -- where the joint move ms does as was chosen, exactly one transition shows what it shows where exactly one does as was chosen
  shows_or_chose : (ms : List Move) → MoveOfEach Ss n.names ms → (bs : List Bool) → length bs ≡ length ks → AsChosen ks bs (events ms)
      → OneShowing n (shows (events ms)) ↔ ExactlyOne n (AsChosen ks bs)
  shows_or_chose ms i bs l c =
      exactly_one_same n (λ es. shows es ≡ shows (events ms)) (AsChosen ks bs) (λ j h.
      let f = follows (edge n j) (get_or_in n.edges j no_edge h) in
      let w = of_joint Ss n.names (side_events (edge n j)) f.0 f.1 in
      rw w.2 (shows_chosen kinds i w.1 bs l c))

  -- exactly one for each thing shown is exactly one for each choice
  pub one_for_each : (ms : List Move) → MoveOfEach Ss n.names ms → Fulfils one_each Ss n ↔ OneForEach ks n
  one_for_each ms i = (
    (λ f bs l.
        let w = choice_moves kinds i bs l in
        (shows_or_chose w.0 w.1 bs l w.2).0 (f (events w.0) (targets w.0) (joint_of w.1))),
    (λ f es ts a.
        let w = of_joint Ss n.names es ts a in
        let c = own_choices kinds w.1 in
        rw w.2 ((shows_or_chose w.0 w.1 c.0 c.1 c.2).1 (f c.0 c.1))),
  )
