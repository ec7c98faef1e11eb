-- A design: sides, formulas and rules; the converter and the sides moving together; what it is for a converter to work, and for
-- none to work.
use Rattle.std.specs.Prelude.{◌≡◌, ℕ, ◌<◌, length}
use mathlib.Core.List.{List, Memᴰ as In}
use Rattle.model.specs.Actl.{System, Holds}
use Rattle.model.specs.Sides.{Side, WellFormedSide}
use Rattle.model.specs.Joined.{zeros, JointMove, labelled}
use Rattle.model.specs.Converters.{Edge, Converter, node, side_events, Matched}
use Rattle.model.specs.Formulas.{Form, formula, Lower, Propositions}

-- rules are formula numbers
pub record Design : Type 0 where
  pub sides : List Side
  pub forms : List Form
  pub rules : List ℕ

-- Refusals 5 to 7, and 1 to 16 states a side (refusal 4); the specification's limits on the number of formulas and rules aren't needed here.
pub record WellFormed (D : Design) : Type 0 where
  pub each_side : (S : Side) → In S D.sides → WellFormedSide S
  pub lower : Lower D.forms
  pub propositions : Propositions (length D.sides) D.forms
  pub rules_there : (r : ℕ) → In r D.rules → r < length D.forms

-- ---- the lock step of the paper's Definition 6
pub record Together : Type 0 where
  pub at : ℕ
  pub sides : List ℕ

-- On a tick the converter takes one of its transitions, and each side the transition with the dual event.
abbrev pub together : List Side → Converter → System
together Ss C = record {
  State = Together;
  Step = λ x y.
      (e : Edge) × In e (node C x.at).edges × (e.next ≡ y.at) × JointMove Ss x.sides (side_events e) y.sides;
  labelled = λ x p. labelled Ss x.sides p;
}

-- the converter and each side in state 0
abbrev pub start : List Side → Together
start Ss = record { at = 0; sides = zeros Ss }

-- ---- works, and none works
-- the rule with this formula number holds at the start; otherwise the converter fails it
abbrev pub Keeps : Design → Converter → ℕ → Type 0
Keeps D C r = Holds (together D.sides C) (formula D.forms r) (start D.sides)

-- matched, and keeps every rule
pub record Works (D : Design) (C : Converter) : Type 0 where
  pub matched : Matched D.sides C
  pub keeps : (r : ℕ) → In r D.rules → Keeps D C r

-- Demand 3's "none": every matched converter, of whatever finite number of states and with any number of transitions in a state,
-- fails some rule.
abbrev pub NoneWorks : Design → Type 0
NoneWorks D = (C : Converter) → Matched D.sides C → (r : ℕ) × In r D.rules × (Keeps D C r → ⊥)
