-- Specification, "Rows": the designs and converters of the starred rows. Label words stand in the states and proposition numbers in the formulas: bit k of the
-- kernel's word is proposition k, bit k of the host's is 16 + k and bit k of the third side's 32 + k. Where a row tells of no third side, it is the resting one.
use Rattle.std.specs.Prelude.{List, [], ◌∷◌, ◌++◌, map, ℕ, ◌+◌, pos}
use Rattle.model.specs.Events.{Event, tick, dual}
use Rattle.model.specs.Sides.{Move, State, Side}
use Rattle.model.specs.Converters.{Edge, Node, Converter}
use Rattle.model.specs.Formulas.{Form, truth, prop, nprop, conj, disj, ax, au, ag}
use Rattle.model.specs.Designs.{Design}
use Rattle.model.specs.Resting.{rested_node, rested_design}
use Rattle.model.specs.Ranges.{Range, up_to, none, ranged}

-- ---- as the specification writes them
abbrev pub plus : ℕ → Event
plus n = pos n

abbrev pub minus : ℕ → Event
minus n = dual (pos n)

-- the event to the target
abbrev on : Event → ℕ → Move
on e t = record { event = e; target = t }

-- a state with this label word
abbrev labelling : ℕ → List Move → State
labelling w ms = record { label = w; moves = ms }

-- (event for side 1, event for side 2) to the next record
abbrev pair : Event → Event → ℕ → Edge
pair e f c = record { events = e ∷ f ∷ []; next = c }

-- the record of (state of side 1, state of side 2), with zeros for the third side
abbrev at : ℕ → ℕ → List Edge → Node
at s t es = rested_node (record { names = s ∷ t ∷ []; edges = es })

-- two tables, and three
abbrev design : List Side → List Form → List ℕ → Design
design Ss fs rs = rested_design (record { sides = Ss; forms = fs; rules = rs })

abbrev design_of_three : Side → Side → Side → List Form → List ℕ → Design
design_of_three S R Q fs rs = record { sides = S ∷ R ∷ Q ∷ []; forms = fs; rules = rs }

-- ---- the handshake pair H: s0 and s1 beside t0 and t1 (the paper, section 3)
abbrev pub handshake_kernel : Side
handshake_kernel = labelling 1 (on tick 0 ∷ on (minus 1) 1 ∷ []) ∷ labelling 2 (on tick 1 ∷ on (minus 2) 0 ∷ []) ∷ []

abbrev handshake_host : Side
handshake_host = labelling 4 (on tick 0 ∷ on (plus 1) 1 ∷ []) ∷ labelling 8 (on (plus 2) 0 ∷ []) ∷ []

abbrev pub handshake : List Side
handshake = handshake_kernel ∷ handshake_host ∷ []

-- its propositions by the paper's names: Idle₁ of s0, ROut of s1, Idle₂ of t0, RIn of t1
abbrev idle₁ : ℕ
idle₁ = 0

abbrev r_out : ℕ
r_out = 1

abbrev idle₂ : ℕ
idle₂ = 18

abbrev r_in : ℕ
r_in = 19

-- records 1 and 2 of the converter F (the paper, Figure 5)
abbrev F₁ : Node
F₁ = at 1 0 (pair (plus 2) (minus 1) 2 ∷ pair tick tick 1 ∷ [])

abbrev F₂ : Node
F₂ = at 0 1 (pair (plus 1) (minus 2) 1 ∷ pair tick (minus 2) 0 ∷ [])

abbrev pub F : Converter
F = at 0 0 (pair (plus 1) tick 1 ∷ pair tick tick 0 ∷ []) ∷ F₁ ∷ F₂ ∷ []

-- F without (0,0) in record 0
abbrev pub F_deaf : Converter
F_deaf = at 0 0 (pair (plus 1) tick 1 ∷ []) ∷ F₁ ∷ F₂ ∷ []

-- F whole, with (0,-1) to a fourth record as a third transition of record 0; the fourth record is as the third
abbrev pub F_third : Converter
F_third = at 0 0 (pair (plus 1) tick 1 ∷ pair tick tick 0 ∷ pair tick (minus 1) 3 ∷ []) ∷ F₁ ∷ F₂ ∷ F₂ ∷ []

-- AG(p ∧ q ⇒ AX(x ∨ y)) from number k on: the rule is number k + 8
abbrev guarded : ℕ → ℕ → ℕ → Form → Form → List Form
guarded k p q x y = nprop p ∷ nprop q ∷ disj k (k + 1) ∷ x ∷ y ∷ disj (k + 3) (k + 4) ∷ ax (k + 5) ∷ disj (k + 2) (k + 6) ∷ ag (k + 7) ∷ []

-- the paper's four rules, with the last word of the fourth left open
abbrev four : Form → List Form
four y =
    guarded 0 idle₁ idle₂ (prop r_out) (nprop r_in)
    ++ guarded 9 r_in r_out (prop idle₁) (nprop idle₂)
    ++ guarded 18 r_out idle₂ (prop r_in) (nprop idle₁)
    ++ guarded 27 idle₁ r_in (nprop r_out) y

-- the numbers of the four rules
abbrev four_rules : List ℕ
four_rules = 8 ∷ 17 ∷ 26 ∷ 35 ∷ []

-- H without rules
abbrev pub H : Design
H = design handshake [] []

-- H with the four rules as printed, the fourth ending AX(¬1 ∨ ¬18)
abbrev pub H_printed : Design
H_printed = design handshake (four (nprop idle₂)) four_rules

-- and with the fourth ending AX(¬1 ∨ 18), as its words say
abbrev pub H_mended : Design
H_mended = design handshake (four (prop idle₂)) four_rules

-- A(true U 1)
abbrev r_out_comes : List Form
r_out_comes = truth ∷ prop r_out ∷ au 0 1 ∷ []

-- H with it
abbrev pub H_until : Design
H_until = design handshake r_out_comes (2 ∷ [])

-- A(true U 0) on H: it holds at the start
abbrev pub H_idle : Design
H_idle = design handshake (truth ∷ prop idle₁ ∷ au 0 1 ∷ []) (2 ∷ [])

-- ---- one ticking state
abbrev ticking : Side
ticking = labelling 0 (on tick 0 ∷ []) ∷ []

-- ---- two states ticking in turn, with labels 0 and 1, beside it; AG(A(true U 0) ∧ A(true U 1))
abbrev pub turns : Design
turns =
    design ((labelling 1 (on tick 1 ∷ []) ∷ labelling 2 (on tick 0 ∷ []) ∷ []) ∷ ticking ∷ []) (truth ∷ prop 0 ∷ prop 1 ∷ au 0 1 ∷ au 0 2 ∷ conj 3 4 ∷ ag 5 ∷ []) (6 ∷ [])

-- the same with the two untils as rules of their own, before it
abbrev pub turns_apart : Design
turns_apart = record { sides = turns.sides; forms = turns.forms; rules = 3 ∷ 4 ∷ 6 ∷ [] }

abbrev pub turns_converter : Converter
turns_converter = at 0 0 (pair tick tick 1 ∷ []) ∷ at 1 0 (pair tick tick 0 ∷ []) ∷ []

-- ---- one ticking state beside h0, h1 and h2
abbrev fork : List Side
fork = ticking ∷ (labelling 0 (on (plus 1) 1 ∷ on (plus 2) 2 ∷ []) ∷ labelling 1 (on tick 1 ∷ []) ∷ labelling 2 (on tick 2 ∷ []) ∷ []) ∷ []

-- the label of h1 and that of h2, and AX of each, numbers 2 and 3
abbrev nexts : List Form
nexts = prop 16 ∷ prop 17 ∷ ax 0 ∷ ax 1 ∷ []

-- (AX 16) or (AX 17)
abbrev pub fork_either : Design
fork_either = design fork (nexts ++ (disj 2 3 ∷ [])) (4 ∷ [])

-- AX 16 and AX 17 both, as two rules and as one
abbrev pub fork_two : Design
fork_two = design fork nexts (2 ∷ 3 ∷ [])

abbrev pub fork_both : Design
fork_both = design fork (nexts ++ (conj 2 3 ∷ [])) (4 ∷ [])

-- the converter that enables the first input alone
abbrev pub fork_first : Converter
fork_first = at 0 0 (pair tick (minus 1) 1 ∷ []) ∷ at 0 1 (pair tick tick 1 ∷ []) ∷ []

-- and the one that enables both
abbrev pub fork_open : Converter
fork_open = at 0 0 (pair tick (minus 1) 1 ∷ pair tick (minus 2) 2 ∷ []) ∷ at 0 1 (pair tick tick 1 ∷ []) ∷ at 0 2 (pair tick tick 2 ∷ []) ∷ []

-- ---- lock and menu: kernel and host each have a state with bit 3 set and one without. Both only tick, to and fro, so that the lock is held where the menu is
-- shut.
abbrev lock_menu : List Side
lock_menu =
    (labelling 8 (on tick 1 ∷ []) ∷ labelling 0 (on tick 0 ∷ []) ∷ [])
    ∷ (labelling 0 (on tick 1 ∷ []) ∷ labelling 8 (on tick 0 ∷ []) ∷ [])
    ∷ []

-- the kernel's bit 3 and the host's
abbrev lock_held : ℕ
lock_held = 3

abbrev menu_open : ℕ
menu_open = 19

-- 3, and AX 19
abbrev pub lock_then_menu : Design
lock_then_menu = design lock_menu (prop lock_held ∷ prop menu_open ∷ ax 1 ∷ []) (0 ∷ 2 ∷ [])

-- the same with each label taken for the other: 19, and AX 3
abbrev pub menu_now : Design
menu_now = design lock_menu (prop menu_open ∷ []) (0 ∷ [])

abbrev pub lock_next : Design
lock_next = design lock_menu (prop lock_held ∷ ax 0 ∷ []) (1 ∷ [])

-- the converter T
abbrev pub in_step : Converter
in_step = at 0 0 (pair tick tick 1 ∷ []) ∷ at 1 1 (pair tick tick 0 ∷ []) ∷ []

-- a formula for proposition p, and one for its absence
abbrev pub naming : ℕ → Design
naming p = design lock_menu (prop p ∷ nprop p ∷ []) []

-- ---- the viewer: a host that reads 1 and shows a picture (16) for one tick, beside a kernel that ticks
abbrev viewer : Side
viewer = labelling 0 (on tick 0 ∷ on (plus 1) 1 ∷ []) ∷ labelling 1 (on tick 0 ∷ []) ∷ []

-- a third side that makes thumbnails: v0 waits or sends 1; v1, where it is busy (32), has these moves
abbrev thumbnails : List Move → Side
thumbnails ms = labelling 0 (on tick 0 ∷ on (minus 1) 1 ∷ []) ∷ labelling 1 ms ∷ []

-- A(true U 16 ∧ ¬32): a picture comes while no thumbnail is made
abbrev a_picture : List Form
a_picture = truth ∷ prop 16 ∷ nprop 32 ∷ conj 1 2 ∷ au 0 3 ∷ []

abbrev pub viewer_alone : Design
viewer_alone = design (ticking ∷ viewer ∷ []) a_picture (4 ∷ [])

-- v1 sends 2 and goes back; or it may wait, too
abbrev pub viewer_prompt : Design
viewer_prompt = design_of_three ticking viewer (thumbnails (on (minus 2) 0 ∷ [])) a_picture (4 ∷ [])

abbrev pub viewer_waiting : Design
viewer_waiting = design_of_three ticking viewer (thumbnails (on (minus 2) 0 ∷ on tick 1 ∷ [])) a_picture (4 ∷ [])

-- (event for each side) to the next record, and the record of (state of each side)
abbrev triple : Event → Event → Event → ℕ → Edge
triple e f g c = record { events = e ∷ f ∷ g ∷ []; next = c }

abbrev at_three : ℕ → ℕ → ℕ → List Edge → Node
at_three s t v es = record { names = s ∷ t ∷ v ∷ []; edges = es }

-- without the third side the picture comes at once, and again after each tick
abbrev pub picture_at_once : Converter
picture_at_once = at 0 0 (pair tick (minus 1) 1 ∷ []) ∷ at 0 1 (pair tick tick 0 ∷ []) ∷ []

-- with it: at once if v0 waits, else with the step back to it
abbrev pub picture_in_time : Converter
picture_in_time =
    at_three 0 0 0 (triple tick (minus 1) tick 1 ∷ triple tick tick (plus 1) 2 ∷ [])
    ∷ at_three 0 1 0 (triple tick tick tick 0 ∷ triple tick tick (plus 1) 2 ∷ [])
    ∷ at_three 0 0 1 (triple tick (minus 1) (plus 2) 1 ∷ [])
    ∷ []

-- ---- sides of one state, with these events
abbrev staying : List Event → Side
staying es = labelling 0 (map (λ e. on e 0) es) ∷ []

-- a kernel and a third side that send or tick, beside a host that reads 1 or 2
abbrev pub four_choices : Design
four_choices = design_of_three (staying (tick ∷ minus 1 ∷ [])) (staying (plus 1 ∷ plus 2 ∷ [])) (staying (minus 3 ∷ tick ∷ [])) [] []

-- one record, each of whose transitions leads back to it
abbrev alone : List Edge → Converter
alone es = at_three 0 0 0 es ∷ []

-- one transition for each choice; without the first of them; with one more
abbrev three_of_four : List Edge
three_of_four = triple tick (minus 1) tick 0 ∷ triple (plus 1) (minus 2) tick 0 ∷ triple tick (minus 2) (plus 3) 0 ∷ []

abbrev pub one_for_each : Converter
one_for_each = alone (triple (plus 1) (minus 1) (plus 3) 0 ∷ three_of_four)

abbrev pub one_left_out : Converter
one_left_out = alone three_of_four

abbrev pub one_too_many : Converter
one_too_many = alone (triple (plus 1) (minus 1) (plus 3) 0 ∷ triple tick (minus 2) tick 0 ∷ three_of_four)

-- three sides that send or tick
abbrev pub three_senders : Design
three_senders = design_of_three (staying (tick ∷ minus 1 ∷ [])) (staying (minus 2 ∷ tick ∷ [])) (staying (tick ∷ minus 3 ∷ [])) [] []

-- all eight joint moves; and these without the one in which all tick
abbrev seven : List Edge
seven =
    triple (plus 1) tick tick 0 ∷ triple tick (plus 2) tick 0 ∷ triple tick tick (plus 3) 0
    ∷ triple (plus 1) (plus 2) tick 0 ∷ triple (plus 1) tick (plus 3) 0 ∷ triple tick (plus 2) (plus 3) 0
    ∷ triple (plus 1) (plus 2) (plus 3) 0
    ∷ []

abbrev pub all_eight : Converter
all_eight = alone (triple tick tick tick 0 ∷ seven)

abbrev pub seven_of_eight : Converter
seven_of_eight = alone seven

-- ---- waits known by range
-- state s at l to g waits, and at l or more
abbrev pub between : ℕ → ℕ → ℕ → Range
between s l g = record { state = s; least = l; greatest = up_to g }

abbrev pub at_least : ℕ → ℕ → Range
at_least s l = record { state = s; least = l; greatest = none }

-- H with s0 at 0 to n, and A(true U 1)
abbrev H_by : ℕ → Design
H_by n = design (ranged handshake_kernel (between 0 0 n ∷ []) ∷ handshake_host ∷ []) r_out_comes (2 ∷ [])

abbrev pub H_in_time : Design
H_in_time = H_by 2

-- the transitions of s1 beside t0
abbrev sent : List Edge
sent = pair tick tick 1 ∷ pair (plus 2) tick 0 ∷ []

-- s0, s1 and counts 1 and 2 of s0, beside t0, which is never told
abbrev pub sent_in_time : Converter
sent_in_time =
    at 0 0 (pair tick tick 2 ∷ pair (plus 1) tick 1 ∷ [])
    ∷ at 1 0 sent
    ∷ at 2 0 (pair tick tick 3 ∷ pair (plus 1) tick 1 ∷ [])
    ∷ at 3 0 (pair (plus 1) tick 1 ∷ [])
    ∷ []

-- the same with s0 at 0 to 0 and at 0 to 1: there is no count 2 of s0, and no count 1
abbrev pub H_by_one : Design
H_by_one = H_by 1

abbrev pub H_at_once : Design
H_at_once = H_by 0

abbrev pub sent_at_once : Converter
sent_at_once = at 0 0 (pair (plus 1) tick 1 ∷ []) ∷ at 1 0 sent ∷ []

abbrev pub sent_by_one : Converter
sent_by_one = at 0 0 (pair tick tick 2 ∷ pair (plus 1) tick 1 ∷ []) ∷ at 1 0 sent ∷ at 2 0 (pair (plus 1) tick 1 ∷ []) ∷ []

-- s1 as it is; s0 where it ticks to the state t, where it sends, and where it does either
abbrev s1 : State
s1 = labelling 2 (on tick 1 ∷ on (minus 2) 0 ∷ [])

abbrev s0_ticks : ℕ → State
s0_ticks t = labelling 1 (on tick t ∷ [])

abbrev s0_sends : State
s0_sends = labelling 1 (on (minus 1) 1 ∷ [])

abbrev s0_either : ℕ → State
s0_either t = labelling 1 (on tick t ∷ on (minus 1) 1 ∷ [])

-- the kernel of H with s0 at 0 to 0
abbrev pub sends_at_once : Side
sends_at_once = s0_sends ∷ s1 ∷ []

-- with s0 at 3 to 9. Count 0 is state 0, and counts 1 to 9 are states 2 to 10: counts 0 to 2 tick, 3 to 8 do either, 9 sends.
abbrev pub third_to_ninth : Side
third_to_ninth =
    s0_ticks 2 ∷ s1 ∷ s0_ticks 3 ∷ s0_ticks 4
    ∷ s0_either 5 ∷ s0_either 6 ∷ s0_either 7 ∷ s0_either 8 ∷ s0_either 9 ∷ s0_either 10
    ∷ s0_sends
    ∷ []

-- with s1 at 1 to 2 and then s0 at 0 to 1: counts 1 and 2 of s1 are states 2 and 3, and count 1 of s0 is state 4
abbrev pub s1_then_s0 : Side
s1_then_s0 =
    s0_either 4
    ∷ labelling 2 (on tick 2 ∷ []) ∷ labelling 2 (on tick 3 ∷ on (minus 2) 0 ∷ []) ∷ labelling 2 (on (minus 2) 0 ∷ [])
    ∷ s0_sends
    ∷ []

-- one state that sends 3 back to itself, or ticks
abbrev pub sending_back : Side
sending_back = staying (minus 3 ∷ tick ∷ [])

-- the same at 15 or more: counts 0 to 14 tick, and count 15 sends back to count 0 or ticks to itself
abbrev pub fifteen_or_more : Side
fifteen_or_more =
    map (λ t. labelling 0 (on tick t ∷ [])) (1 ∷ 2 ∷ 3 ∷ 4 ∷ 5 ∷ 6 ∷ 7 ∷ 8 ∷ 9 ∷ 10 ∷ 11 ∷ 12 ∷ 13 ∷ 14 ∷ 15 ∷ [])
    ++ (labelling 0 (on (minus 3) 0 ∷ on tick 15 ∷ []) ∷ [])
