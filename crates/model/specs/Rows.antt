-- Specification, "Rows": the starred rows in one table, and what each says of the definitions. `proofs/Rows` `starred_rows` shows that every row is true.
use Rattle.std.specs.Prelude.{◌≡◌, ℕ, ◌<◌, length}
use mathlib.Core.List.{List, [], ◌∷◌, Memᴰ as In}
use Rattle.model.specs.Events.{Event, tick}
use Rattle.model.specs.Sides.{Side, WellFormedSide}
use Rattle.model.specs.Converters.{Converter, Matched}
use Rattle.model.specs.Formulas.{Lower, Propositions}
use Rattle.model.specs.Designs.{Design, WellFormed, Keeps, Works, NoneWorks}
use Rattle.model.specs.Positions.{kept_count, positions}
use Rattle.model.specs.Judged.{Verdict, accepted, unmatched, violated, judged}
use Rattle.model.specs.Waits.{no_wait, waits}
use Rattle.model.specs.Ranges.{Range, ranged}
use Rattle.model.specs.Runs.{done, refused, ticked}
use Rattle.model.specs.RowData.{plus, minus, H, H_printed, H_mended, H_until, H_idle, F, F_deaf, F_third, turns, turns_apart, turns_converter, fork_either, fork_two, fork_both, fork_first, fork_open, lock_then_menu, menu_now, lock_next, in_step, naming, viewer_alone, viewer_prompt, viewer_waiting, picture_at_once, picture_in_time, four_choices, one_for_each, one_left_out, one_too_many, three_senders, all_eight, seven_of_eight, between, at_least, H_at_once, H_by_one, H_in_time, sent_at_once, sent_by_one, sent_in_time, handshake_kernel, sends_at_once, third_to_ninth, s1_then_s0, sending_back, fifteen_or_more}

pub data Row : Type 0 where
  -- a design that none of 5 to 7 refuses
  well_formed : Design → Row
  -- one that 7 refuses, and for a proposition alone
  no_such_label : Design → Row
  -- how many formulas of the design are kept
  kept_are : Design → ℕ → Row
  -- how many positions it has
  positions_are : Design → ℕ → Row
  -- what the judge answers
  judge_says : Design → Converter → Verdict → Row
  -- the waits of the rules of a design under a converter that works
  waits_are : Design → Converter → List ℕ → Row
  -- a rule of the design that a matched converter keeps, or fails
  keeps_rule fails_rule : Design → Converter → ℕ → Row
  -- a converter that the search may find
  converter_for : Design → Converter → Row
  -- the search's 16
  none_for : Design → Row
  -- a tick at this record, where the sides show these events: to which record, and what is delivered
  tick_takes : Converter → ℕ → List Event → ℕ → List Event → Row
  -- or the number of its refusal
  tick_refused : Converter → ℕ → List Event → ℕ → Row
  -- a side, ranges for its states, and the table in which these count
  ranged_is : Side → List Range → Side → Row

-- what a row says of the definitions; of a tick, whatever was delivered before
abbrev pub Meaning : Row → Type 0
Meaning (well_formed D) = WellFormed D
Meaning (no_such_label D) =
    ((S : Side) → In S D.sides → WellFormedSide S) × Lower D.forms × ((r : ℕ) → In r D.rules → r < length D.forms)
    × (Propositions (length D.sides) D.forms → ⊥)
Meaning (kept_are D n) = WellFormed D × (kept_count D ≡ n)
Meaning (positions_are D n) = WellFormed D × (positions D ≡ n)
Meaning (judge_says D C v) = WellFormed D × (judged D C ≡ v)
Meaning (waits_are D C ws) = WellFormed D × Works D C × (waits D C ≡ ws)
Meaning (keeps_rule D C r) = WellFormed D × Matched D.sides C × In r D.rules × Keeps D C r
Meaning (fails_rule D C r) = WellFormed D × Matched D.sides C × In r D.rules × (Keeps D C r → ⊥)
Meaning (converter_for D C) = WellFormed D × Works D C
Meaning (none_for D) = WellFormed D × NoneWorks D
Meaning (tick_takes C c xs d es) =
    (before : List Event)
    → ticked C (record { at = c; delivered = before }) xs
    ≡ record { answer = done; runner = record { at = d; delivered = es } }
Meaning (tick_refused C c xs k) =
    (before : List Event)
    → ticked C (record { at = c; delivered = before }) xs
    ≡ record { answer = refused k; runner = record { at = c; delivered = before } }
Meaning (ranged_is S rs R) = ranged S rs ≡ R

-- the starred rows, in the specification's order
abbrev pub rows : List Row
rows =
    -- H, no rules: 4 positions, a converter
    positions_are H 4 ∷ converter_for H F
    -- the paper's four rules as printed: 8 kept, 1,024 positions, 16
    ∷ kept_are H_printed 8 ∷ positions_are H_printed 1024 ∷ none_for H_printed
    -- F against them: 15; the first three hold, the fourth fails
    ∷ judge_says H_printed F violated ∷ keeps_rule H_printed F 8 ∷ keeps_rule H_printed F 17 ∷ keeps_rule H_printed F 26
    ∷ fails_rule H_printed F 35
    -- with the fourth ending AX(¬1 ∨ 18): F passes, a converter is found
    ∷ judge_says H_mended F accepted ∷ converter_for H_mended F
    -- H, A(true U 1): 8 positions, 16
    ∷ positions_are H_until 8 ∷ none_for H_until
    -- F without (0,0) in record 0: 14; with a third transition of record 0: 14
    ∷ judge_says H_mended F_deaf unmatched ∷ judge_says H_mended F_third unmatched
    -- F at record 1, shown -2 and 0: to 2, delivered -2 and 1; at record 0, shown -2 and 0: 17
    ∷ tick_takes F 1 (minus 2 ∷ tick ∷ tick ∷ []) 2 (minus 2 ∷ plus 1 ∷ tick ∷ []) ∷ tick_refused F 0 (minus 2 ∷ tick ∷ tick ∷ []) 17
    -- two states ticking in turn, AG(A(true U 0) ∧ A(true U 1)): 32 positions, a converter
    ∷ positions_are turns 32 ∷ converter_for turns turns_converter
    -- (AX 16) or (AX 17): 24 positions, a converter; one that enables both inputs: 15
    ∷ positions_are fork_either 24 ∷ converter_for fork_either fork_first ∷ judge_says fork_either fork_open violated
    -- AX 16 and AX 17 both, as two rules and as one: 16
    ∷ none_for fork_two ∷ none_for fork_both
    -- bit 3 set by both sides. 3, and AX 19: 32 positions, a converter
    ∷ positions_are lock_then_menu 32 ∷ converter_for lock_then_menu in_step
    -- 19 in place of 3, and 3 in place of 19: 16, and that converter: 15
    ∷ none_for menu_now ∷ judge_says menu_now in_step violated ∷ none_for lock_next ∷ judge_says lock_next in_step violated
    -- 47 is taken, 48 is refused with 7
    ∷ well_formed (naming 47) ∷ no_such_label (naming 48)
    -- the viewer: 4 positions and a converter; beside thumbnails 8 positions and a converter; where they may wait: 16
    ∷ positions_are viewer_alone 4 ∷ converter_for viewer_alone picture_at_once ∷ positions_are viewer_prompt 8 ∷ converter_for viewer_prompt picture_in_time
    ∷ positions_are viewer_waiting 8 ∷ none_for viewer_waiting
    -- two delayed sides and one input: exactly one transition for each of four choices
    ∷ judge_says four_choices one_for_each accepted ∷ judge_says four_choices one_left_out unmatched ∷ judge_says four_choices one_too_many unmatched
    -- three delayed sides: all eight joint moves
    ∷ judge_says three_senders all_eight accepted ∷ judge_says three_senders seven_of_eight unmatched
    -- H with s0 at 0 to 2, A(true U 1): 16 positions, a converter
    ∷ positions_are H_in_time 16 ∷ converter_for H_in_time sent_in_time
    -- the kernel of H with s0 at 0 to 0: it only sends; at 0 or more: as it was
    ∷ ranged_is handshake_kernel (between 0 0 0 ∷ []) sends_at_once ∷ ranged_is handshake_kernel (at_least 0 0 ∷ []) handshake_kernel
    -- s0 at 3 to 9; s1 at 1 to 2 and then s0 at 0 to 1
    ∷ ranged_is handshake_kernel (between 0 3 9 ∷ []) third_to_ninth
    ∷ ranged_is handshake_kernel (between 1 1 2 ∷ between 0 0 1 ∷ []) s1_then_s0
    -- one state that sends back to itself, at 15 or more
    ∷ ranged_is sending_back (at_least 0 15 ∷ []) fifteen_or_more
    -- F, A(true U 0): it waits 0; F under the four rules, of which none is an until: no waits
    ∷ waits_are H_idle F (0 ∷ []) ∷ waits_are H_mended F (no_wait ∷ no_wait ∷ no_wait ∷ no_wait ∷ [])
    -- H with s0 at 0 to 0, at 0 to 1 and at 0 to 2, A(true U 1): it waits 1, 2 and 3
    ∷ waits_are H_at_once sent_at_once (1 ∷ []) ∷ waits_are H_by_one sent_by_one (2 ∷ []) ∷ waits_are H_in_time sent_in_time (3 ∷ [])
    -- two states ticking in turn; A(true U 0), A(true U 1) and the always over both: 0, 1 and none
    ∷ waits_are turns_apart turns_converter (0 ∷ 1 ∷ no_wait ∷ [])
    ∷ []
