-- Specification, "Events and states": an event and its dual. 0 is the tick, n above 0 is read, -n is sent.
use Rattle.std.specs.Prelude.{Bool, true, false, List, map, ◌≤◌, eqb, ℤ, pos, negsuc, neg_ℤ, nat_abs}

abbrev pub Event : Type 0
Event = ℤ

abbrev pub tick : Event
tick = pos 0

-- from -63 to 63
abbrev pub InRange : Event → Type 0
InRange e = nat_abs e ≤ 63

-- `negsuc n` is -(n + 1): the sent events are the negative ones
abbrev pub sent : Event → Bool
sent (pos n) = false
sent (negsuc n) = true

-- The paper's Definition 3: the dual of an event is its negation
abbrev pub dual : Event → Event
dual e = neg_ℤ e

abbrev pub duals : List Event → List Event
duals es = map dual es

-- What a side shows of the event that it takes: the event itself where it is sent, and 0 otherwise.
abbrev pub shown : Event → Event
shown (pos n) = tick
shown (negsuc n) = negsuc n

abbrev pub shows : List Event → List Event
shows es = map shown es

-- the test of two events for equality
abbrev pub same_event : Event → Event → Bool
same_event (pos m) (pos n) = eqb m n
same_event (negsuc m) (negsuc n) = eqb m n
same_event (pos m) (negsuc n) = false
same_event (negsuc m) (pos n) = false
