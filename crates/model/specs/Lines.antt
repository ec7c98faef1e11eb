-- Specification, "What a converter may do": what the kinds of the side states ask of a converter state that names them, in three lines, as they are worded and of
-- any number of sides: none is input, "all transitions of the joint state"; some are input and some delayed, "exactly one for each choice of the delayed sides
-- to send or tick"; any others, "one at least". (`proofs/Lines`: this is what `duty` asks.)
use Rattle.std.specs.Prelude.{◌≡◌, Bool, true, false, ℕ, ◌≤◌, ◌<◌, T, pos, length, get_or}
use mathlib.Core.List.{List, [], ◌∷◌, map, Memᴰ as In}
use Rattle.model.specs.Events.{Event, tick, sent}
use Rattle.model.specs.Sides.{Move, Side, state, Kind, input, delayed, IsKind}
use Rattle.model.specs.Converters.{Node, edge, side_events, Duty, every, one_each, some, Enabled}

-- ---- which kinds each line is about
-- no side is input
abbrev pub NoneInput : List Kind → Type 0
NoneInput ks = In input ks → ⊥

-- some are input and some delayed
abbrev pub InputAndDelayed : List Kind → Type 0
InputAndDelayed ks = In input ks × In delayed ks

-- any others
abbrev pub Otherwise : List Kind → Type 0
Otherwise ks = (NoneInput ks → ⊥) × (InputAndDelayed ks → ⊥)

-- Three lines, of which the first asks A, the second B and the third C, each only of the kinds that it is about.
pub record Lines (ks : List Kind) (A B C : Type 0) : Type 0 where
  pub none_input : NoneInput ks → A
  pub input_and_delayed : InputAndDelayed ks → B
  pub otherwise : Otherwise ks → C

-- ---- what each asks of a converter state n
-- P is true of each side, the state that is named of it, and what stands at its place in a list
pub data Each {A : Type 0} (P : Side → ℕ → A → Type 0) : List Side → List ℕ → List A → Type 0 where
  nil : Each P [] [] []
  cons : {S : Side} {Ss : List Side} {s : ℕ} {ss : List ℕ} {x : A} {xs : List A} → P S s x → Each P Ss ss xs → Each P (S ∷ Ss) (s ∷ ss) (x ∷ xs)

-- a move of each side from the state that is named
abbrev pub MoveOfEach : List Side → List ℕ → List Move → Type 0
MoveOfEach Ss ss ms = Each (λ S s m. In m (state S s).moves) Ss ss ms

-- all transitions are enabled: every choice of a move of each side
abbrev pub EveryEnabled : List Side → Node → Type 0
EveryEnabled Ss n = (ms : List Move) → MoveOfEach Ss n.names ms → Enabled n (map (λ (m : Move). m.event) ms)

-- to send, or to tick
abbrev pub Does : Bool → Event → Type 0
Does true e = T (sent e)
Does false e = e ≡ tick

-- the event of side i; past the end a read event, so neither sent nor the tick
abbrev pub event_of : ℕ → List Event → Event
event_of i es = get_or es i (pos 1)

-- A choice is a list that says of each side whether it is to send. With the events es it is carried out where each delayed side that is to send sends and each other
-- delayed side ticks; a side that isn't delayed has no choice.
abbrev pub AsChosen : List Kind → List Bool → List Event → Type 0
AsChosen ks bs es = (i : ℕ) → i < length ks → get_or ks i input ≡ delayed → Does (get_or bs i false) (event_of i es)

-- exactly one transition by which the sides have such events
abbrev pub ExactlyOne : Node → (List Event → Type 0) → Type 0
ExactlyOne n P =
    (j : ℕ) × (j < length n.edges) × P (side_events (edge n j))
    × ((k : ℕ) → k < length n.edges → P (side_events (edge n k)) → k ≡ j)

-- exactly one for each choice of the delayed sides to send or tick
abbrev pub OneForEach : List Kind → Node → Type 0
OneForEach ks n = (bs : List Bool) → length bs ≡ length ks → ExactlyOne n (AsChosen ks bs)

-- one or more
abbrev pub OneOrMore : Node → Type 0
OneOrMore n = 1 ≤ length n.edges

-- ---- the three lines
-- as a duty: they say d of the kinds ks
abbrev pub DutyByLine : List Kind → Duty → Type 0
DutyByLine ks d = Lines ks (d ≡ every) (d ≡ one_each) (d ≡ some)

-- in full, of a converter state n that names states of the kinds ks
abbrev pub ThreeLines : List Kind → List Side → Node → Type 0
ThreeLines ks Ss n = Lines ks (EveryEnabled Ss n) (OneForEach ks n) (OneOrMore n)

-- the states that are named have the kinds ks
abbrev pub OfKinds : List Side → List ℕ → List Kind → Type 0
OfKinds Ss ss ks = Each (λ S s k. IsKind k (state S s)) Ss ss ks
