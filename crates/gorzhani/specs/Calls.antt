-- What each call for C promises, for every input. The number r that C is answered and every lent byte after are stated by equations: the answer by the call's
-- definition, its number by `Codes`. One thing is left open, and it is named: which converter a search finds.
use Rattle.std.specs.Prelude.{◌≡◌, cond, List, [], ◌∷◌, ◌++◌, ℕ, eqb, ℤ, pos, length, Result}
use Rattle.model.specs.Events.{Event}
use Rattle.model.specs.Positions.{positions}
use Rattle.layout.specs.Designs.{design}
use Rattle.files.specs.Files.{file_records, written}
use Rattle.refusals.specs.Refusals.{first_failing, design_tests, positions_test}
use Rattle.files.specs.FileRefusals.{write_refusal, read_refusal}
use Rattle.refusals.specs.declared.refusal.Refusal.{Refusal}
use Rattle.refusals.specs.Answered.{Answer, done, refused, answered}
use Rattle.refusals.specs.Refusals.{left_by}
use Rattle.files.specs.Answers.{write_answer, read_answer}
use Rattle.search.specs.Search.{search_refusal, Finding, answer_of, table_of, work_of}
use Rattle.judge.specs.Judge.{judge_answer, judge_work, judge_list}
use Rattle.judge.specs.declared.quick.Outcome.{Outcome as Told}
use Rattle.judge.specs.declared.quick.Outcome.TheVariants as told
use Rattle.judge.specs.Quick.{verdict_answer, verdict_work}
use Rattle.runner.specs.declared.Runner.{Runner}
use Rattle.runner.specs.Ticks.{ticked}
use Rattle.ranges.specs.Ranges.{ranges_refusal, ranges_answer, ranged_design}
use Rattle.typed.specs.Records.{rule_blocks}
use Rattle.rules.specs.Rules.{Reading, rules_of, formulas_for, rules_refusal, rules_answer}
use Rattle.gorzhani.specs.Codes.{refusal_code, count_code, done_code, verdict_code}

-- ---- gorzhani_positions: the positions of a design ds, or the first of 1 to 9 that refuses it
unfoldable pub positions_refusal : List ℕ → ℕ
positions_refusal ds = first_failing (design_tests ds ++ (positions_test ds ∷ []))

abbrev pub positions_number : List ℕ → ℤ
positions_number ds = cond (eqb (positions_refusal ds) 0) (pos (positions (design ds))) (refusal_code (positions_refusal ds))

-- ---- gorzhani_search: a design ds; the table and the work before, and after
pub record SearchCall (ds table work : List ℕ) (r : ℤ) (table' work' : List ℕ) : Type 0 where
  -- declined with 1 to 13; none, 16; or a converter that works, and which one is left open
  pub finding : Finding (search_refusal ds (length table) (length work)) (design ds)
  -- the count of its records, or the refusal
  pub number : r ≡ count_code (answer_of finding)
  pub leaves_table : table' ≡ table_of finding table
  pub leaves_work : work' ≡ work_of (search_refusal ds (length table) (length work)) (design ds) work
  -- as the search itself answers it
  pub answer : Result ℕ Refusal
  pub is : answered answer ≡ answer_of finding

-- ---- gorzhani_judge: a design ds, a converter cs; the work and the list of waits before, and after
pub record JudgeCall (ds cs work list : List ℕ) (r : ℤ) (work' list' : List ℕ) : Type 0 where
  -- 0 for a yes, or the refusal
  pub number : r ≡ done_code (judge_answer ds cs (length work) (length list))
  pub leaves_work : work' ≡ judge_work ds cs work (length list)
  -- after a yes the waits of the rules stand at its front; after any other answer it is as it was
  pub leaves_list : list' ≡ judge_list ds cs (length work) list
  -- as the judge itself answers it
  pub answer : Result (Unit {0}) Refusal
  pub is : answered answer ≡ judge_answer ds cs (length work) (length list)

-- ---- gorzhani_verdict: a design ds, a converter cs; the work and the byte lent for a rule's place before, and after
-- the byte p after: the place of the rule that fails, or as it was
abbrev pub place_after : Answer Told → ℕ → ℕ
place_after (done told.Yes) p = p
place_after (done (told.Fails k)) p = k
place_after (refused k) p = p

pub record VerdictCall (ds cs work : List ℕ) (rule : ℕ) (r : ℤ) (work' : List ℕ) (rule' : ℕ) : Type 0 where
  -- 0 for a yes, 15 where a rule fails, or the refusal
  pub number : r ≡ verdict_code (verdict_answer ds cs (length work))
  pub leaves_work : work' ≡ verdict_work ds cs work
  pub leaves_rule : rule' ≡ place_after (verdict_answer ds cs (length work)) rule
  -- as the quick verdict itself answers it
  pub answer : Result Told Refusal
  pub is : answered answer ≡ verdict_answer ds cs (length work)

-- ---- gorzhani_write: a converter cs; the bytes lent for its blocks before, and after
pub record WriteCall (cs blocks : List ℕ) (r : ℤ) (blocks' : List ℕ) : Type 0 where
  -- the count of blocks, or the refusal
  pub number : r ≡ count_code (write_answer cs (length blocks))
  pub leaves_blocks : blocks' ≡ left_by (write_refusal cs (length blocks)) blocks (written cs)

-- ---- gorzhani_read: a file bs; the bytes lent for its converter before, and after
pub record ReadCall (bs converter : List ℕ) (r : ℤ) (converter' : List ℕ) : Type 0 where
  -- the count of records, or the refusal
  pub number : r ≡ count_code (read_answer bs (length converter))
  pub leaves_converter : converter' ≡ left_by (read_refusal bs (length converter)) converter (file_records bs)

-- ---- gorzhani_tick: a converter cs, the events xs that the sides show; the runner before, and after
pub record TickCall (cs : List ℕ) (runner : Runner) (xs : List Event) (r : ℤ) (runner' : Runner) : Type 0 where
  -- 0 for "done", or the refusal
  pub number : r ≡ done_code (ticked cs runner xs).answer
  pub leaves_runner : runner' ≡ (ticked cs runner xs).runner

-- ---- gorzhani_ranges: a design ds, a list of entries es; the bytes lent for the new design before, and after
pub record RangesCall (ds es result : List ℕ) (r : ℤ) (result' : List ℕ) : Type 0 where
  -- 0 for "done", or the refusal
  pub number : r ≡ done_code (ranges_answer ds es (length result))
  pub leaves_result : result' ≡ left_by (ranges_refusal ds es (length result)) result (ranged_design ds es)

-- ---- gorzhani_rules: a text; the bytes lent for the two blocks before, and after
pub record RulesCall (text blocks : List ℕ) (r : ℤ) (blocks' : List ℕ) : Type 0 where
  -- the rules that the text reads as, or none: there is no choice
  pub reading : Reading text
  -- the count of rules, or the refusal
  pub number : r ≡ count_code (rules_answer reading (length blocks))
  pub leaves_blocks : blocks' ≡ left_by (rules_refusal reading (length blocks)) blocks (rule_blocks (formulas_for (rules_of reading)))
