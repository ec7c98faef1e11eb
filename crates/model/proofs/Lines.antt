-- The three lines of the specification, "What a converter may do", say one duty of any list of kinds, the one that `duty` gives; and what they ask of a converter
-- state is what that duty asks. Then each line by itself, of three sides.
use mathlib.Core.Path.{◌≡◌, refl}
use mathlib.Core.Bool.{Bool}
use mathlib.Core.Logic.Iff
use mathlib.Core.Logic.{◌↔◌, ⊎_elim}
use mathlib.Core.List.Memᴰ.{cases_cons as in-cases}
use mathlib.Core.List.Memᴰ.{eq_of_singleton as in_one}
use mathlib.Core.List.Memᴰ.{head as here}
use mathlib.Core.List.Memᴰ.{tail as there}
use mathlib.Core.List.{List, [], ◌∷◌, Memᴰ as In}
use Prim.Native.Nat.{ℕ, zero, suc}
use native.Mathlib.Omega.{arith}
use lib.Dec.{T}
use Rattle.model.specs.Events.{Event}
use Rattle.model.specs.Sides.{Move, Side, state, Kind, input, output_only, delayed, IsKind, WellFormedSide}
use Rattle.model.specs.Joined.{Names, kinds_of}
use Rattle.model.specs.Converters.{Node, edge, side_events, Duty, every, one_each, some, any_input, any_delayed, duty, Enabled, Fulfils}
use Rattle.model.specs.Lines.{NoneInput, InputAndDelayed, Otherwise, Lines, nil, cons, MoveOfEach, EveryEnabled, Does, event_of, AsChosen, ExactlyOne, OneForEach, OneOrMore, DutyByLine, ThreeLines, OfKinds}
use Rattle.model.proofs.StateKinds.{kind_only}
use Rattle.model.proofs.Joint.{all_regular, some_joint}
use Rattle.model.proofs.Alone.{DutyOf, is_every, is_one_each, is_some, duty_of}
use Rattle.model.proofs.NoneInput.{Follows}
use Rattle.model.proofs.Chosen.{events, targets, joint_of, of_joint, exactly_one_same, one_for_each}

-- ---- kinds are under one line
-- a member that isn't the first is one of the others
in_others : {k l : Kind} {ks : List Kind} → (k ≡ l → ⊥) → In k (l ∷ ks) → In k ks
in_others {k} {l} {ks} n i = ⊎_elim (λ (e : k ≡ l). absurd (n e)) (λ (j : In k ks). j) (in-cases i)

some_input : (ks : List Kind) → T (any_input ks) ↔ In input ks
unfolding any_input
some_input [] = ((λ t. absurd t), (λ i. elim i [ ]))
some_input (input ∷ ks) = ((λ t. here refl), (λ i. tt))
some_input (output_only ∷ ks) = let r = some_input ks in ((λ t. there (r.0 t)), (λ i. r.1 (in_others (λ e. let z : ◌≡◌ {A = ℕ} 0 1 = cc in omega arith) i)))
some_input (delayed ∷ ks) = let r = some_input ks in ((λ t. there (r.0 t)), (λ i. r.1 (in_others (λ e. let z : ◌≡◌ {A = ℕ} 0 1 = cc in omega arith) i)))

some_delayed : (ks : List Kind) → T (any_delayed ks) ↔ In delayed ks
unfolding any_delayed
some_delayed [] = ((λ t. absurd t), (λ i. elim i [ ]))
some_delayed (delayed ∷ ks) = ((λ t. here refl), (λ i. tt))
some_delayed (input ∷ ks) = let r = some_delayed ks in ((λ t. there (r.0 t)), (λ i. r.1 (in_others (λ e. let z : ◌≡◌ {A = ℕ} 0 1 = cc in omega arith) i)))
some_delayed (output_only ∷ ks) = let r = some_delayed ks in ((λ t. there (r.0 t)), (λ i. r.1 (in_others (λ e. let z : ◌≡◌ {A = ℕ} 0 1 = cc in omega arith) i)))

-- the line that kinds are under, with the duty that they have
data Line (ks : List Kind) : Type 0 where
  first : NoneInput ks → duty ks ≡ every → Line ks
  second : InputAndDelayed ks → duty ks ≡ one_each → Line ks
  third : Otherwise ks → duty ks ≡ some → Line ks

line : (ks : List Kind) → Line ks
line ks = by (duty_of ks)
  where
    by : DutyOf ks → Line ks
    by (is_every e n) = first (λ i. n ((some_input ks).1 i)) e
    by (is_one_each e i y) = second ((some_input ks).0 i, (some_delayed ks).0 y) e
    by (is_some e i x) = third ((λ n. n ((some_input ks).0 i)), (λ w. x ((some_delayed ks).1 w.1))) e

-- three lines ask of kinds what the line asks that they are under
module _ {ks : List Kind} {A B C : Type 0} where
  by_first : NoneInput ks → Lines ks A B C ↔ A
  by_first h = ((λ t. t.none_input h), (λ a. record { none_input = λ _. a; input_and_delayed = λ g. absurd (h g.0); otherwise = λ g. absurd (g.0 h) }))

  by_second : InputAndDelayed ks → Lines ks A B C ↔ B
  by_second h = ((λ t. t.input_and_delayed h), (λ b. record { none_input = λ g. absurd (g h.0); input_and_delayed = λ _. b; otherwise = λ g. absurd (g.1 h) }))

  by_third : Otherwise ks → Lines ks A B C ↔ C
  by_third h = ((λ t. t.otherwise h), (λ c. record { none_input = λ g. absurd (h.0 g); input_and_delayed = λ g. absurd (h.1 g); otherwise = λ _. c }))

-- The lines say one duty of kinds, the one that `duty` gives.
pub duty_by_line : (ks : List Kind) (d : Duty) → DutyByLine ks d ↔ (d ≡ duty ks)
duty_by_line ks d = by (line ks)
  where
    by : Line ks → DutyByLine ks d ↔ (d ≡ duty ks)
    by (first h e) = rw e (by_first h)
    by (second h e) = rw e (by_second h)
    by (third h e) = rw e (by_third h)

-- ---- what the lines ask of a converter state
-- `kinds_of` goes by `kind`, which is the kind that a state has
kinds_are : {Ss : List Side} {ss : List ℕ} {ks : List Kind} → OfKinds Ss ss ks → kinds_of Ss ss ≡ ks
kinds_are nil = refl
kinds_are (cons {S = S} {s = s} {x = k} h hs) = let p = kind_only k (state S s) h in let q = kinds_are hs in cc

-- the joint moves are the choices of a move of each side
every_enabled : (Ss : List Side) (n : Node) → Fulfils every Ss n ↔ EveryEnabled Ss n
every_enabled Ss n = (
  (λ f ms i. f (events ms) (targets ms) (joint_of i)),
  (λ f es ts a. let w = of_joint Ss n.names es ts a in rw w.2 (f w.0 w.1)),
)

module _ (Ss : List Side) (wf : (S : Side) → In S Ss → WellFormedSide S) (n : Node) (ks : List Kind)
    (hs : Names Ss n.names) (kinds : OfKinds Ss n.names ks) (follows : Follows Ss n) where
  -- What the lines ask of a node that names states of these kinds and whose transitions carry joint moves is what its duty asks.
  pub lines_ask : ThreeLines ks Ss n ↔ Fulfils (duty (kinds_of Ss n.names)) Ss n
  lines_ask = rw (kinds_are kinds) (by (line ks))
    where
      -- some joint move
      some_move : (ms : List Move) × MoveOfEach Ss n.names ms
      some_move = let a = some_joint Ss (all_regular Ss wf) n.names hs in let w = of_joint Ss n.names a.0 a.1 a.2 in (w.0, w.1)

      by : Line ks → ThreeLines ks Ss n ↔ Fulfils (duty ks) Ss n
      by (first h e) = rw e (Iff.trans (by_first h) (Iff.symm (every_enabled Ss n)))
      by (second h e) = rw e (Iff.trans (by_second h) (Iff.symm (one_for_each Ss n ks kinds follows some_move.0 some_move.1)))
      by (third h e) = rw e (by_third h)

-- ---- each line, of three sides
-- a choice of three is one of each
module _ (k l m : Kind) where
  abbrev pub ThreeChose : (x y z : Bool) → List Event → Type 0
  ThreeChose x y z es = (k ≡ delayed → Does x (event_of 0 es)) × (l ≡ delayed → Does y (event_of 1 es)) × (m ≡ delayed → Does z (event_of 2 es))

  three_chose : (x y z : Bool) (es : List Event) → AsChosen (k ∷ l ∷ m ∷ []) (x ∷ y ∷ z ∷ []) es ↔ ThreeChose x y z es
  three_chose x y z es = ((λ c. (c 0 (omega arith), c 1 (omega arith), c 2 (omega arith))), each)
    where
      each : ThreeChose x y z es → AsChosen (k ∷ l ∷ m ∷ []) (x ∷ y ∷ z ∷ []) es
      each w zero h = w.0
      each w (suc zero) h = w.1
      each w (suc (suc zero)) h = w.2
      each w (suc (suc (suc i))) h = absurd (omega arith)

  one_for_three : (n : Node) → OneForEach (k ∷ l ∷ m ∷ []) n ↔ ((x y z : Bool) → ExactlyOne n (ThreeChose x y z))
  one_for_three n = ((λ f x y z. (same x y z).0 (f (x ∷ y ∷ z ∷ []) refl)), of_three)
    where
      same : (x y z : Bool) → ExactlyOne n (AsChosen (k ∷ l ∷ m ∷ []) (x ∷ y ∷ z ∷ [])) ↔ ExactlyOne n (ThreeChose x y z)
      same x y z = exactly_one_same n (AsChosen (k ∷ l ∷ m ∷ []) (x ∷ y ∷ z ∷ [])) (ThreeChose x y z) (λ j h. three_chose x y z (side_events (edge n j)))

      of_three : ((x y z : Bool) → ExactlyOne n (ThreeChose x y z)) → OneForEach (k ∷ l ∷ m ∷ []) n
      of_three f (x ∷ y ∷ z ∷ []) h = (same x y z).1 (f x y z)
      of_three f [] h = absurd (omega arith)
      of_three f (x ∷ []) h = absurd (omega arith)
      of_three f (x ∷ y ∷ []) h = absurd (omega arith)
      of_three f (x ∷ y ∷ z ∷ b ∷ bs) h = absurd (omega arith)

module _ (S R Q : Side) (wS : WellFormedSide S) (wR : WellFormedSide R) (wQ : WellFormedSide Q) (n : Node) (s r q : ℕ) (named : n.names ≡ s ∷ r ∷ q ∷ [])
    (hs : Names (S ∷ R ∷ Q ∷ []) n.names) (follows : Follows (S ∷ R ∷ Q ∷ []) n)
    (k l m : Kind) (hk : IsKind k (state S s)) (hl : IsKind l (state R r)) (hm : IsKind m (state Q q)) where
  -- what the node owes
  abbrev pub Owed : Type 0
  Owed = Fulfils (duty (kinds_of (S ∷ R ∷ Q ∷ []) n.names)) (S ∷ R ∷ Q ∷ []) n

  each_formed : (X : Side) → In X (S ∷ R ∷ Q ∷ []) → WellFormedSide X
  each_formed X i =
      ⊎_elim
      (λ (e : X ≡ S). rw e wS)
      (λ (j : In X (R ∷ Q ∷ [])). ⊎_elim (λ (e : X ≡ R). rw e wR) (λ (h : In X (Q ∷ [])). rw (in_one h) wQ) (in-cases j))
      (in-cases i)

  owed : Owed ↔ ThreeLines (k ∷ l ∷ m ∷ []) (S ∷ R ∷ Q ∷ []) n
  owed = Iff.symm (lines_ask (S ∷ R ∷ Q ∷ []) each_formed n (k ∷ l ∷ m ∷ []) hs (rw named (cons hk (cons hl (cons hm nil)))) follows)

  -- every choice of three moves is enabled
  abbrev pub EveryThree : Type 0
  EveryThree = (x y z : Move) → In x (state S s).moves → In y (state R r).moves → In z (state Q q).moves → Enabled n (x.event ∷ y.event ∷ z.event ∷ [])

  of_three_moves : EveryThree → {ms : List Move} → MoveOfEach (S ∷ R ∷ Q ∷ []) (s ∷ r ∷ q ∷ []) ms → Enabled n (events ms)
  of_three_moves f (cons {x = x} i (cons {x = y} j (cons {x = z} w nil))) = f x y z i j w

  -- no side is input: all transitions are enabled
  pub three_none_input : NoneInput (k ∷ l ∷ m ∷ []) → Owed ↔ EveryThree
  three_none_input h =
      Iff.trans owed (Iff.trans (by_first h) ((λ f x y z i j w. f (x ∷ y ∷ z ∷ []) (rw named (cons i (cons j (cons w nil))))), (λ f ms i. of_three_moves f (rw named at i))))

  -- some are input and some delayed: exactly one for each choice of the delayed sides to send or tick
  pub three_input_and_delayed : InputAndDelayed (k ∷ l ∷ m ∷ []) → Owed ↔ ((x y z : Bool) → ExactlyOne n (ThreeChose k l m x y z))
  three_input_and_delayed h = Iff.trans owed (Iff.trans (by_second h) (one_for_three k l m n))

  -- else: one or more
  pub three_otherwise : Otherwise (k ∷ l ∷ m ∷ []) → Owed ↔ OneOrMore n
  three_otherwise h = Iff.trans owed (by_third h)
