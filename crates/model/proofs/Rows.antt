-- Theorem 6: the starred rows of the specification are true. One test computes on the whole table, and a row that passes it says what `Meaning` says.
use mathlib.Core.Path.{◌≡◌, refl, ap₂, subst⁻¹}
use mathlib.Core.Bool.{Bool, true, false, not, ◌&&◌}
use mathlib.Core.List.{List, [], ◌∷◌, flatten, Memᴰ as In}
use mathlib.Core.Option.{Option, none, some}
use Prim.Native.Nat.{ℕ}
use lib.Dec.{T, T_not, eqb, eqb→eq}
use Rattle.model.specs.Events.{Event, tick, same_event}
use Rattle.model.specs.Converters.{Edge, Converter, node, side_events, any_input, any_delayed, duty, Matched}
use Rattle.model.specs.Designs.{Design}
use Rattle.model.specs.Sides.{Move, State, any_sent, kind}
use Rattle.model.specs.Joined.{label_words, own_label, labelled}
use Rattle.model.specs.Positions.{any, is_until, is_always, is_next_of, kept, one_if, count, kept_count, until_count, joint_count, positions}
use Rattle.model.specs.Judged.{all, tally, same_list, same_events, with_move, with_moves, joint_moves, names?, once?, follows?, fulfils?, obeys?, matched?, until_by, always_for, Verdict, accepted, unmatched, violated, number, judged}
use Rattle.model.specs.Waits.{first, waits as rule_waits}
use Rattle.model.specs.Ranges.{counted_move, counted, counts, replaced, ranged}
use Rattle.model.specs.Runs.{Runner, done, refused, fits, all_fit, first_fit, taken, ticked}
use Rattle.model.specs.RowData.{minus}
use Rattle.model.specs.Rows.{Row, well_formed, no_such_label, kept_are, positions_are, judge_says, waits_are, keeps_rule, fails_rule, converter_for, none_for, tick_takes, tick_refused, ranged_is, Meaning, rows}
use Rattle.model.proofs.Bools.{and_both}
use Rattle.model.proofs.Lists.{all_in, any_in}
use Rattle.model.proofs.SameEvent.{same_event_eq}
use Rattle.model.proofs.JointMoves.{same_list_eq, same_events_eq}
use Rattle.model.proofs.MatchedTest.{matched_sound}
use Rattle.model.proofs.Judged.{kept_at_start, label_keeps, judged_accepts}
use Rattle.model.proofs.Formed.{all_below, distinct?, state?, sends?, kind?, side?, lower?, prop?, props?, parts?, well_formed?, props_formed, parts_formed, formed}
use Rattle.model.proofs.Ways.{both_ways, either_way, ways_all}
use Rattle.model.proofs.Refuted.{Choice, Refutation, clash, waits, show_at, showing, every_answer, lost, covers, withheld, never, refutes, refuted_none}

-- ---- the refutations behind the rows with 16
-- at these states of three sides, kernel and third side show these events; no host of the rows sends
abbrev shown_at : ℕ → ℕ → ℕ → Event → Event → Choice
shown_at s t v e g = record { at = s ∷ t ∷ v ∷ []; show = e ∷ tick ∷ g ∷ [] }

abbrev refutations : List Refutation
refutations =
    -- H, the rules as printed. s0 sends 1. If t0 moves with it, s1 waits, against the second rule. If t0 stays, s1 sends 2; by the third rule t0 moves
    -- then, and s0 sends 1 again, against the fourth.
    clash 3 (shown_at 0 0 0 (minus 1) tick ∷ shown_at 1 1 0 tick tick ∷ shown_at 1 0 0 (minus 2) tick ∷ shown_at 0 1 0 (minus 1) tick ∷ [])
    -- H, A(true U 1): s0 waits for ever
    ∷ waits 2 (shown_at 0 0 0 tick tick ∷ shown_at 0 1 0 tick tick ∷ [])
    -- AX 16 and AX 17: after one tick h1 lacks one label, h2 the other. Lock and menu: the menu is shut at first, and the lock free after one tick.
    ∷ clash 1 (shown_at 0 0 0 tick tick ∷ [])
    -- The viewer, A(true U 16 ∧ ¬32): v0 sends 1, and v1 waits for ever
    ∷ waits 4 (shown_at 0 0 0 tick (minus 1) ∷ shown_at 0 0 1 tick tick ∷ shown_at 0 1 1 tick tick ∷ [])
    ∷ []

-- ---- the test
-- the transition that a tick takes leads to record d and has these side events
unfoldable leads : ℕ → List Event → Option Edge → Bool
leads d es none = false
leads d es (some e) = eqb e.next d && same_events (side_events e) es

-- no transition fits
unfoldable stuck : Option Edge → Bool
stuck none = true
stuck (some e) = false

-- tables that are the same
unfoldable same_move : Move → Move → Bool
same_move m w = same_event m.event w.event && eqb m.target w.target

unfoldable same_state : State → State → Bool
same_state q p = eqb q.label p.label && same_list same_move q.moves p.moves

unfoldable row_test : Row → Bool
row_test (well_formed D) = well_formed? D
row_test (no_such_label D) = parts? D && not (props? D)
row_test (kept_are D n) = well_formed? D && eqb (kept_count D) n
row_test (positions_are D n) = well_formed? D && eqb (positions D) n
row_test (judge_says D C v) = well_formed? D && eqb (number (judged D C)) (number v)
row_test (waits_are D C ws) = well_formed? D && (eqb (number (judged D C)) (number accepted) && same_list eqb (rule_waits D C) ws)
row_test (keeps_rule D C r) = well_formed? D && (matched? D.sides C && any (eqb r) D.rules && kept_at_start D C r)
row_test (fails_rule D C r) = well_formed? D && (matched? D.sides C && any (eqb r) D.rules && not (kept_at_start D C r))
row_test (converter_for D C) = well_formed? D && eqb (number (judged D C)) (number accepted)
row_test (none_for D) = well_formed? D && any (refutes D) refutations
row_test (tick_takes C c xs d es) = leads d es (first_fit xs (node C c).edges)
row_test (tick_refused C c xs k) = stuck (first_fit xs (node C c).edges) && eqb 17 k
row_test (ranged_is S rs R) = same_list same_state (ranged S rs) R

-- every row passes
rows_pass : T (all row_test rows)
unfolding row_test all any
    well_formed? parts? side? all_below state? distinct? kind? sends? any_sent lower? props? prop?
    positions joint_count kept_count kept count until_count one_if is_until is_always is_next_of
    judged matched? obeys? names? once? follows? fulfils? joint_moves with_moves with_move same_list tally duty any_input any_delayed kind until_by always_for labelled own_label label_words
    refutes lost show_at showing every_answer covers withheld never ways_all both_ways either_way
    leads stuck first_fit all_fit fits
    ranged replaced counts counted counted_move flatten same_state same_move
    rule_waits first
rows_pass = tt

-- ---- a row that passes is true
-- an answer is known by its number
same_answer : (v w : Verdict) → T (eqb (number v) (number w)) → v ≡ w
same_answer accepted accepted t = refl
same_answer unmatched unmatched t = refl
same_answer violated violated t = refl
same_answer accepted unmatched t = absurd t
same_answer accepted violated t = absurd t
same_answer unmatched accepted t = absurd t
same_answer unmatched violated t = absurd t
same_answer violated accepted t = absurd t
same_answer violated unmatched t = absurd t

-- a row for a rule: the converter is matched, the rule is one, and its label at the start is as tested
rule_label : (D : Design) (C : Converter) (r : ℕ) (b : Bool) → T (matched? D.sides C && any (eqb r) D.rules && b) → Matched D.sides C × In r D.rules × T b
rule_label D C r b t =
    let w = and_both (matched? D.sides C && any (eqb r) D.rules) b t in
    let x = and_both (matched? D.sides C) (any (eqb r) D.rules) w.0 in
    let i = any_in (eqb r) D.rules x.1 in
    (matched_sound D.sides C x.0, subst⁻¹ (λ (y : ℕ). In y D.rules) (eqb→eq r i.0 i.2) i.1, w.1)

-- what a tick does, by the transition that fits first
takes : (r : Runner) (d : ℕ) (es : List Event) (o : Option Edge) → T (leads d es o) → taken r o ≡ record { answer = done; runner = record { at = d; delivered = es } }
unfolding leads taken
takes r d es none t = absurd t
takes r d es (some e) t =
    let w = and_both (eqb e.next d) (same_events (side_events e) es) t in
    let p : e.next ≡ d = eqb→eq e.next d w.0 in
    let q : side_events e ≡ es = same_events_eq (side_events e) es w.1 in
    cc

refuses : (r : Runner) (k : ℕ) (o : Option Edge) → T (stuck o && eqb 17 k) → taken r o ≡ record { answer = refused k; runner = r }
unfolding stuck taken
refuses r k none t = let p : 17 ≡ k = eqb→eq 17 k t in cc
refuses r k (some e) t = absurd t

-- a table is known by its states, and a state by its label word and its moves
move_eq : (m w : Move) → T (same_move m w) → m ≡ w
unfolding same_move
move_eq m w t =
    let x = and_both (same_event m.event w.event) (eqb m.target w.target) t in
    ap₂ {C = Move} (λ e d. record { event = e; target = d }) (same_event_eq m.event w.event x.0) (eqb→eq m.target w.target x.1)

state_eq : (q p : State) → T (same_state q p) → q ≡ p
unfolding same_state
state_eq q p t =
    let x = and_both (eqb q.label p.label) (same_list same_move q.moves p.moves) t in
    ap₂ {C = State} (λ l ms. record { label = l; moves = ms }) (eqb→eq q.label p.label x.0) (same_list_eq same_move move_eq q.moves p.moves x.1)

row_means : (r : Row) → T (row_test r) → Meaning r
unfolding row_test ticked
row_means (well_formed D) t = formed D t
row_means (no_such_label D) t =
    let w = and_both (parts? D) (not (props? D)) t in
    let p = parts_formed D w.0 in
    (p.0, p.1, p.2, λ f. T_not (props? D) w.1 ((props_formed D).1 f))
row_means (kept_are D n) t = let w = and_both (well_formed? D) (eqb (kept_count D) n) t in (formed D w.0, eqb→eq (kept_count D) n w.1)
row_means (positions_are D n) t = let w = and_both (well_formed? D) (eqb (positions D) n) t in (formed D w.0, eqb→eq (positions D) n w.1)
row_means (judge_says D C v) t = let w = and_both (well_formed? D) (eqb (number (judged D C)) (number v)) t in (formed D w.0, same_answer (judged D C) v w.1)
row_means (waits_are D C ws) t =
    let w = and_both (well_formed? D) (eqb (number (judged D C)) (number accepted) && same_list eqb (rule_waits D C) ws) t in
    let x = and_both (eqb (number (judged D C)) (number accepted)) (same_list eqb (rule_waits D C) ws) w.1 in
    let wf = formed D w.0 in
    (wf, (judged_accepts D wf C).0 (same_answer (judged D C) accepted x.0), same_list_eq eqb eqb→eq (rule_waits D C) ws x.1)
row_means (keeps_rule D C r) t =
    let w = and_both (well_formed? D) (matched? D.sides C && any (eqb r) D.rules && kept_at_start D C r) t in
    let wf = formed D w.0 in
    let x = rule_label D C r (kept_at_start D C r) w.1 in
    (wf, x.0, x.1, (label_keeps D wf C x.0 r (wf.rules_there r x.1)).0 x.2)
row_means (fails_rule D C r) t =
    let w = and_both (well_formed? D) (matched? D.sides C && any (eqb r) D.rules && not (kept_at_start D C r)) t in
    let wf = formed D w.0 in
    let x = rule_label D C r (not (kept_at_start D C r)) w.1 in
    (wf, x.0, x.1, λ k. T_not (kept_at_start D C r) x.2 ((label_keeps D wf C x.0 r (wf.rules_there r x.1)).1 k))
row_means (converter_for D C) t =
    let w = and_both (well_formed? D) (eqb (number (judged D C)) (number accepted)) t in
    let wf = formed D w.0 in
    (wf, (judged_accepts D wf C).0 (same_answer (judged D C) accepted w.1))
row_means (none_for D) t =
    let w = and_both (well_formed? D) (any (refutes D) refutations) t in
    let wf = formed D w.0 in
    let R = any_in (refutes D) refutations w.1 in
    (wf, refuted_none D wf R.0 R.2)
row_means (tick_takes C c xs d es) t = λ before. takes (record { at = c; delivered = before }) d es (first_fit xs (node C c).edges) t
row_means (tick_refused C c xs k) t = λ before. refuses (record { at = c; delivered = before }) k (first_fit xs (node C c).edges) t
row_means (ranged_is S rs R) t = same_list_eq same_state state_eq (ranged S rs) R t

-- the theorem: every starred row is true
pub starred_rows : (r : Row) → In r rows → Meaning r
starred_rows r i = row_means r (all_in row_test i rows_pass)
