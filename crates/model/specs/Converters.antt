-- Specification, "What a converter may do": a converter is any finite list of states with any number of transitions;
-- which ones are matched to the sides.
use Rattle.std.specs.Prelude.{◌≡◌, Bool, true, false, cond, ℕ, ◌≤◌, ◌<◌, length, get_or}
use mathlib.Core.List.{List, [], ◌∷◌, Memᴰ as In}
use Rattle.model.specs.Events.{Event, duals, shows}
use Rattle.model.specs.Sides.{Side, Kind, input, output_only, delayed}
use Rattle.model.specs.Joined.{Names, zeros, kinds_of, JointMove}

-- The specification's transition of a converter state: an event for each side, and the number of the next converter state.
pub record Edge : Type 0 where
  pub events : List Event
  pub next : ℕ

-- The specification's converter state: the side states that it names, and its transitions.
pub record Node : Type 0 where
  pub names : List ℕ
  pub edges : List Edge

abbrev pub Converter : Type 0
Converter = List Node

-- what stands past the end
abbrev pub no_edge : Edge
no_edge = record { events = []; next = 0 }

abbrev pub no_node : Node
no_node = record { names = []; edges = [] }

abbrev pub node : Converter → ℕ → Node
node C c = get_or C c no_node

abbrev pub edge : Node → ℕ → Edge
edge n j = get_or n.edges j no_edge

-- A transition carries the duals of the sides' events, so these are the sides' events:
abbrev pub side_events : Edge → List Event
side_events e = duals e.events

-- ---- the duty, by the kinds of the states that are named
pub data Duty : Type 0 where
  -- every joint move is enabled
  every : Duty
  -- exactly one is enabled for each choice of the delayed sides to send or to tick
  one_each : Duty
  -- one or more
  some : Duty

unfoldable pub any_input : List Kind → Bool
any_input [] = false
any_input (input ∷ ks) = true
any_input (output_only ∷ ks) = any_input ks
any_input (delayed ∷ ks) = any_input ks

unfoldable pub any_delayed : List Kind → Bool
any_delayed [] = false
any_delayed (input ∷ ks) = any_delayed ks
any_delayed (output_only ∷ ks) = any_delayed ks
any_delayed (delayed ∷ ks) = true

-- The specification says this in three lines. `Lines` has them as they are worded, and `proofs/Lines` shows that the two agree.
unfoldable pub duty : List Kind → Duty
duty ks = cond (any_input ks) (cond (any_delayed ks) one_each some) every

-- a transition for these side events
abbrev pub Enabled : Node → List Event → Type 0
Enabled n es = (j : ℕ) × (j < length n.edges) × (side_events (edge n j) ≡ es)

-- Exactly one transition under which the sides show xs. The sides that are not delayed have one thing to show, so what is shown
-- is the choice of the delayed ones.
abbrev pub OneShowing : Node → List Event → Type 0
OneShowing n xs =
    (j : ℕ) × (j < length n.edges) × (shows (side_events (edge n j)) ≡ xs)
    × ((k : ℕ) → k < length n.edges → shows (side_events (edge n k)) ≡ xs → k ≡ j)

abbrev pub Fulfils : Duty → List Side → Node → Type 0
Fulfils every Ss n = (es : List Event) (ts : List ℕ) → JointMove Ss n.names es ts → Enabled n es
Fulfils one_each Ss n = (es : List Event) (ts : List ℕ) → JointMove Ss n.names es ts → OneShowing n (shows es)
Fulfils some Ss n = 1 ≤ length n.edges

-- ---- matched
-- What each converter state obeys, reached or not.
pub record Obeys (Ss : List Side) (C : Converter) (n : Node) : Type 0 where
  -- it names states that the sides have
  pub has_states : Names Ss n.names
  -- at least one transition, and no tuple of events twice
  pub some_edge : 1 ≤ length n.edges
  pub once : (j k : ℕ) → j < length n.edges → k < length n.edges
      → (edge n j).events ≡ (edge n k).events → j ≡ k
  -- a transition is the dual of a joint move, and the next converter state names where that leads
  pub follows : (e : Edge) → In e n.edges
      → (e.next < length C) × JointMove Ss n.names (side_events e) (node C e.next).names
  pub does_duty : Fulfils (duty (kinds_of Ss n.names)) Ss n

pub record Matched (Ss : List Side) (C : Converter) : Type 0 where
  pub some_node : 1 ≤ length C
  -- state 0 names the start of every side
  pub starts : (node C 0).names ≡ zeros Ss
  pub each : (c : ℕ) → c < length C → Obeys Ss C (node C c)
