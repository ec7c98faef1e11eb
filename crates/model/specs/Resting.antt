-- Specification, "Events and states": a design of two tables has three sides too, of which the third is one state, without labels, whose only transition is a tick to
-- itself. Its converters are those of the two sides with zeros added. Both are said of any number of sides, the resting one behind them. (`proofs/Rested`: the verdicts stay.)
use Rattle.std.specs.Prelude.{List, [], ◌∷◌, ◌++◌, map, ℕ}
use Rattle.model.specs.Events.{Event, tick}
use Rattle.model.specs.Sides.{Side}
use Rattle.model.specs.Converters.{Edge, Node, Converter}
use Rattle.model.specs.Designs.{Design}

-- one state, without labels, whose one move is the tick back to itself
abbrev pub resting : Side
resting = record { label = 0; moves = record { event = tick; target = 0 } ∷ [] } ∷ []

-- the sides and, behind them, the resting one
abbrev pub with_resting : List Side → List Side
with_resting Ss = Ss ++ (resting ∷ [])

-- the zeros that are added: its state and its event, behind those of the sides
abbrev pub with_zero : List ℕ → List ℕ
with_zero ss = ss ++ (0 ∷ [])

abbrev pub with_tick : List Event → List Event
with_tick es = es ++ (tick ∷ [])

-- added to a transition, to a converter state and to a converter
abbrev pub rested_edge : Edge → Edge
rested_edge e = record { events = with_tick e.events; next = e.next }

abbrev pub rested_node : Node → Node
rested_node n = record { names = with_zero n.names; edges = map rested_edge n.edges }

abbrev pub rested : Converter → Converter
rested C = map rested_node C

-- the design with that side; its formulas and rules stay
abbrev pub rested_design : Design → Design
rested_design D = record { sides = with_resting D.sides; forms = D.forms; rules = D.rules }
