-- Specification, "When a call declines": refusals 5, 6, 7 and 11 as tests of the model's states, formulas and converter states. (5 to 7
-- are the model's predicates: `refusals/proofs/WellFormed`. What 11 asks is said by transitions and events in `proofs/Nodes`.)
use Rattle.std.specs.Prelude.{ℕ, Bool, true, not, ◌&&◌, ◌||◌, ltb, List, length, ◌==◌, nat_le, nat_lt, slice_index_or, unsigned_abs}
use Rattle.model.specs.Events.{Event, tick, sent, same_event}
use Rattle.model.specs.Sides.{Move, State, Side, state, no_move, any_sent}
use Rattle.model.specs.Formulas.{Form, truth, falsity, prop, nprop, conj, disj, ax, au, ag}
use Rattle.model.specs.Converters.{Node, edge}
use Rattle.model.specs.Judged.{all, same_events}
use Rattle.layout.specs.Sizes.{most_states, last_proposition, place_count, last_event}
use Rattle.layout.specs.Tables.{every, distinct}

abbrev pub in_range : Event → Bool
in_range e = nat_le (unsigned_abs e) last_event

-- transition k of a state
abbrev pub move : State → ℕ → Move
move q k = slice_index_or q.moves k no_move

-- ---- 5: 1 to 8 transitions, events in range and none twice, targets that are states of a side that has n
unfoldable pub state_right : ℕ → State → Bool
state_right n q =
    nat_le 1 (length q.moves) && nat_le (length q.moves) place_count
    && every (length q.moves) (λ k. in_range (move q k).event)
    && distinct (length q.moves) (λ j k. same_event (move q j).event (move q k).event)
    && every (length q.moves) (λ k. ltb (move q k).target n)

unfoldable pub side_right : Side → Bool
side_right S = every (length S) (λ s. state_right (length S) (state S s))

-- ---- 6: a state is input, output-only or delayed
-- the first of the two is sent, and the second is the tick
abbrev pub sends_or_waits : Move → Move → Bool
sends_or_waits m w = sent m.event && same_event w.event tick

-- no sent event
unfoldable pub is_input : State → Bool
is_input q = not (any_sent q.moves)

-- a single transition, sent
unfoldable pub is_output_only : State → Bool
is_output_only q = length q.moves == 1 && any_sent q.moves

-- exactly two, one sent and a tick, in either order
unfoldable pub is_delayed : State → Bool
is_delayed q = length q.moves == 2 && (sends_or_waits (move q 0) (move q 1) || sends_or_waits (move q 1) (move q 0))

unfoldable pub kind_right : State → Bool
kind_right q = is_input q || is_output_only q || is_delayed q

unfoldable pub kinds_right : Side → Bool
kinds_right S = every (length S) (λ s. kind_right (state S s))

-- ---- 7: of formula number k, operands that are lower and propositions up to the last
unfoldable pub form_right : ℕ → Form → Bool
form_right k truth = true
form_right k falsity = true
form_right k (prop p) = nat_le p last_proposition
form_right k (nprop p) = nat_le p last_proposition
form_right k (conj a b) = nat_lt a k && nat_lt b k
form_right k (disj a b) = nat_lt a k && nat_lt b k
form_right k (ax a) = nat_lt a k
form_right k (au a b) = nat_lt a k && nat_lt b k
form_right k (ag a) = nat_lt a k

unfoldable pub forms_right : List Form → Bool
forms_right fs = every (length fs) (λ k. form_right k (slice_index_or fs k truth))

-- each rule names one of n formulas
unfoldable pub rules_right : ℕ → List ℕ → Bool
rules_right n rs = all (λ r. ltb r n) rs

-- ---- 11, of a converter with n records: side states up to 15, 1 to 8 transitions, events in range, no events twice, next records that are there
unfoldable pub node_right : ℕ → Node → Bool
node_right n d =
    all (λ s. ltb s most_states) d.names
    && nat_le 1 (length d.edges) && nat_le (length d.edges) place_count
    && every (length d.edges) (λ k. all in_range (edge d k).events)
    && distinct (length d.edges) (λ j k. same_events (edge d j).events (edge d k).events)
    && every (length d.edges) (λ k. ltb (edge d k).next n)
