-- What a number means to a caller in C, for every input and from the call's promise alone (`Calls`): when the judge's is 0, -14 or -15, and what its list then has; when the quick
-- verdict's is, which rule it then blames, and that it is the judge's number; when the search's is -16, and what stands in the table where it is a count; when the tick's is 0; when the
-- writer's, the block reader's and that of `gorzhani_positions` are counts; when that of `gorzhani_ranges` is 0, and what then stands at the front of the result; when that of
-- `gorzhani_rules` is a count, and what its blocks then say; and how much a search is lent that no refusal comes before its decision.
use mathlib.Core.Path.{◌≡◌, sym, ap, ◌∙◌}
use mathlib.Core.Bool.{false}
use mathlib.Core.List.{List, ◌++◌}
use mathlib.Core.Logic.Iff
use mathlib.Core.Logic.{◌↔◌, ◌⊎◌, inl, inr}
use Prim.Native.Nat.{ℕ, ◌*◌, ◌≤◌, ◌<◌}
use native.Mathlib.Omega.{arith}
use borrow.Author.Tests.{le-leb}
use lib.IntN.{ℤ, pos}
use lib.ListN.{length, take, drop, get_or}
use Rattle.model.specs.Actl.{System, Holds}
use Rattle.model.specs.Formulas.{truth, formula}
use Rattle.model.specs.Events.{Event}
use Rattle.model.specs.Converters.{Matched}
use Rattle.model.specs.Designs.{Works, NoneWorks}
use Rattle.model.specs.Positions.{positions}
use Rattle.model.specs.Ranges.{Takes, TakesUnder, entered}
use Rattle.model.specs.Waits.{WaitIs}
use Rattle.model.specs.Blame.{Blamed}
use Rattle.model.proofs.Judged.{FailsRule}
use Rattle.layout.specs.Sizes.{side_count, least_sides, block_bytes, record_bytes, most_positions, cell_bytes}
use Rattle.layout.specs.Bytes.{part, put}
use Rattle.layout.specs.Designs.{design, side}
use Rattle.layout.specs.Converters.{records, converter}
use Rattle.files.specs.Files.{file_count, file_records, blocks_for, written}
use Rattle.std.specs.Prelude.{Ok}
use Rattle.refusals.specs.Answered.{done, refused, answered}
use Rattle.refusals.proofs.Answered.{by_done}
use Rattle.refusals.specs.Refusals.{first_failing, design_refusal}
use Rattle.files.specs.FileRefusals.{write_refusal, read_refusal}
use Rattle.refusals.proofs.Accepted.{accepted}
use Rattle.refusals.proofs.ByRefusal.{where_none, where_some}
use Rattle.search.specs.Search.{search_refusal, Finding, declined, none, found, answer_of, Searches}
use Rattle.search.proofs.Answers.{FoundIn, none_exactly, found_in}
use Rattle.search.proofs.Refused as search_refused
use Rattle.judge.specs.Judge.{judge_refusal, judge_answer, Judges}
use Rattle.judge.proofs.Promise.{says_yes, says_unmatched, says_violated, list_kept, list_behind, wait_right}
use Rattle.judge.specs.declared.quick.Outcome.{Outcome}
use Rattle.judge.specs.declared.quick.Outcome.TheVariants.{Yes, Fails}
use Rattle.judge.specs.Quick.{verdict_refusal, verdict_answer, as_judge, Tells}
use Rattle.judge.proofs.QuickPromise as quick
use Rattle.runner.specs.declared.Runner.{Runner}
use Rattle.runner.specs.Ticks.{ticked}
use Rattle.runner.proofs.Refusals.{refused_unchanged}
use Rattle.ranges.specs.Entries.{side_ranges}
use Rattle.ranges.specs.Ranges.{ranges_refusal, ranged_design, Ranges}
use Rattle.ranges.proofs.Promise.{written as written_there, result_passes, result_runs}
use Rattle.typed.specs.Grammar.{constant, Lines}
use Rattle.typed.specs.Meaning.{Means}
use Rattle.typed.specs.Records.{rule_blocks}
use Rattle.typed.proofs.Accepted.{SidesPass}
use Rattle.rules.specs.Rules.{rules_of, formulas_for, rules_refusal, Ruling}
use Rattle.rules.proofs.Promise.{of_the_grammar, line_holds, design_accepted}
use Rattle.gorzhani.specs.Codes.{refusal_code, count_code, done_code, verdict_code}
use Rattle.gorzhani.specs.Calls.{positions_refusal, positions_number, SearchCall, JudgeCall, place_after, VerdictCall, WriteCall, ReadCall, TickCall, RangesCall, RulesCall}
use Rattle.gorzhani.proofs.Apart.{counts_exactly, refuses_exactly, search_finds, search_declines, judge_accepts, judge_declines, same_code, verdict_accepts, verdict_declines, verdict_blames, verdict_leaves, tick_does, tick_declines}
use Rattle.gorzhani.proofs.Positions.{taken, some_position, number_taken, number_refused}

-- ---- the judge
module _ {ds cs work list work' list' : List ℕ} {r : ℤ} (J : JudgeCall ds cs work list r work' list') where
  -- what the judge itself promises
  judges : Judges ds cs work list J.answer work' list'
  judges = record { answers = J.is; leaves_work = J.leaves_work; leaves_list = J.leaves_list }

  -- its answer, and the answer by number
  yes_is : (J.answer ≡ Ok tt) ↔ (judge_answer ds cs (length work) (length list) ≡ done tt)
  yes_is = (λ e. sym J.is ∙ ap answered e, λ e. by_done J.answer tt (J.is ∙ e))

  no_is : (k : ℕ) → (answered J.answer ≡ refused k) ↔ (judge_answer ds cs (length work) (length list) ≡ refused k)
  no_is k = (λ e. sym J.is ∙ e, λ e. J.is ∙ e)

  -- 0: nothing is refused, and the converter works
  pub judge_yes : (r ≡ pos 0) ↔ ((judge_refusal ds cs (length work) (length list) ≡ 0) × Works (design ds) (converter cs))
  judge_yes = Iff.trans (judge_accepts J) (Iff.trans (yes_is.1, yes_is.0) (says_yes ds cs work list work' list' _ judges))

  -- -14: it isn't matched
  pub judge_unmatched : (r ≡ refusal_code 14) ↔ ((judge_refusal ds cs (length work) (length list) ≡ 0) × (Matched (design ds).sides (converter cs) → ⊥))
  judge_unmatched = Iff.trans (judge_declines J 14 (omega arith)) (Iff.trans ((no_is 14).1, (no_is 14).0) (says_unmatched ds cs work list work' list' _ judges))

  -- -15: it is matched, and fails a rule
  pub judge_violated : (r ≡ refusal_code 15) ↔ ((judge_refusal ds cs (length work) (length list) ≡ 0) × (Matched (design ds).sides (converter cs) × FailsRule (design ds) (converter cs)))
  judge_violated = Iff.trans (judge_declines J 15 (omega arith)) (Iff.trans ((no_is 15).1, (no_is 15).0) (says_violated ds cs work list work' list' _ judges))

  -- after a 0 the number at i is the wait of rule i, and those behind the rules are as they were
  pub judge_waits : r ≡ pos 0 → ((i : ℕ) → i < length (design ds).rules → WaitIs (design ds) (converter cs) (get_or (design ds).forms (get_or (design ds).rules i 0) truth) (get_or list' i 0))
      × (drop (length (design ds).rules) list' ≡ drop (length (design ds).rules) list)
  judge_waits e =
      let yes = yes_is.1 ((judge_accepts J).0 e) in
      (wait_right ds cs work list work' list' _ judges yes, list_behind ds cs work list work' list' _ judges yes)

  -- after any other number all are
  pub judge_keeps : (r ≡ pos 0 → ⊥) → list' ≡ list
  judge_keeps n = list_kept ds cs work list work' list' _ judges (λ yes. n ((judge_accepts J).1 (yes_is.0 yes)))

-- ---- the quick verdict
module _ {ds cs work work' : List ℕ} {rule rule' : ℕ} {r : ℤ} (Q : VerdictCall ds cs work rule r work' rule') where
  -- what the quick verdict itself promises
  tells : Tells ds cs work Q.answer work'
  tells = record { answers = Q.is; leaves_work = Q.leaves_work }

  -- its answer, and the answer by number
  told_is : (o : Outcome) → (Q.answer ≡ Ok o) ↔ (verdict_answer ds cs (length work) ≡ done o)
  told_is o = (λ e. sym Q.is ∙ ap answered e, λ e. by_done Q.answer o (Q.is ∙ e))

  -- 0: nothing is refused, and the converter works
  pub verdict_yes : (r ≡ pos 0) ↔ ((verdict_refusal ds cs (length work) ≡ 0) × Works (design ds) (converter cs))
  verdict_yes = Iff.trans (verdict_accepts Q) (Iff.trans ((told_is Yes).1, (told_is Yes).0) (quick.says_yes ds cs work work' _ tells))

  -- -14: it isn't matched
  pub verdict_unmatched : (r ≡ refusal_code 14) ↔ ((verdict_refusal ds cs (length work) ≡ 0) × (Matched (design ds).sides (converter cs) → ⊥))
  verdict_unmatched = Iff.trans (verdict_declines Q 14 (omega arith) (λ e. omega arith)) (Iff.trans ((λ e. Q.is ∙ e), (λ e. sym Q.is ∙ e)) (quick.says_unmatched ds cs work work' _ tells))

  -- -15: it is matched, the rule at the place that was written fails, and all before it hold
  pub verdict_fails : r ≡ refusal_code 15 → (verdict_refusal ds cs (length work) ≡ 0) × Matched (design ds).sides (converter cs) × Blamed (design ds) (converter cs) rule'
  verdict_fails e = (quick.says_fails ds cs work work' _ tells rule').0 ((told_is (Fails rule')).1 (verdict_blames Q (λ x. quick.never_alone ds cs work work' _ tells (Q.is ∙ x)) e))

  -- and there is no other case in which a rule is blamed
  pub verdict_blamed : (k : ℕ) → (verdict_refusal ds cs (length work) ≡ 0) × Matched (design ds).sides (converter cs) × Blamed (design ds) (converter cs) k → (r ≡ refusal_code 15) × (rule' ≡ k)
  verdict_blamed k b =
      let e = (told_is (Fails k)).0 ((quick.says_fails ds cs work work' _ tells k).1 b) in
      (Q.number ∙ ap verdict_code e, Q.leaves_rule ∙ ap (λ a. place_after a rule) e)

  -- beside any other number the byte lent for the place is as it was
  pub verdict_keeps : (r ≡ refusal_code 15 → ⊥) → rule' ≡ rule
  verdict_keeps = verdict_leaves Q

  -- unless the judge says -12, as it does only for a list shorter than the rules, the numbers are the same, and so is the work after
  pub verdict_judge : {list work'' list' : List ℕ} {s : ℤ} → JudgeCall ds cs work list s work'' list' → (s ≡ refusal_code 12 → ⊥) → (r ≡ s) × (work' ≡ work'')
  verdict_judge {list} {work''} {list'} J n =
      let not_short : answered J.answer ≡ refused 12 → ⊥ = λ e. n ((judge_declines J 12 (omega arith)).1 (sym J.is ∙ e)) in
      let same = sym J.is ∙ quick.same_verdict ds cs work work' _ tells list work'' list' _ (judges J) not_short ∙ ap as_judge Q.is in
      (Q.number ∙ sym (J.number ∙ ap done_code same ∙ same_code (verdict_answer ds cs (length work))), sym (quick.same_work ds cs work work' _ tells list work'' list' _ (judges J) not_short))

-- ---- the search
module _ {ds table work table' work' : List ℕ} {r : ℤ} (S : SearchCall ds table work r table' work') where
  -- what the search itself promises
  searches : Searches ds table work S.answer table' work'
  searches = record { finding = S.finding; answers = S.is; leaves_table = S.leaves_table; leaves_work = S.leaves_work }

  -- -16: nothing else is refused, and every matched converter of any size fails some rule
  pub search_none : (r ≡ refusal_code 16) ↔ ((search_refusal ds (length table) (length work) ≡ 0) × NoneWorks (design ds))
  search_none = Iff.trans (search_declines S 16 (omega arith)) (Iff.trans ((λ e. S.is ∙ e), (λ e. sym S.is ∙ e)) (none_exactly ds table work _ table' work' searches))

  -- a count n: it is at least 1, and the first n records of the table are a converter that works
  pub search_found : (n : ℕ) → r ≡ pos n → (1 ≤ n) × FoundIn ds table' n
  search_found n e =
      let f = found_in ds table work _ table' work' searches n (by_done S.answer n (S.is ∙ (search_finds S n).0 e)) in
      (omega (arith, f.counts, (accepted (take (record_bytes * n) table') f.right).some_record), f)

  -- where nothing is refused, it is one of the two
  pub search_decides : search_refusal ds (length table) (length work) ≡ 0 → (r ≡ refusal_code 16) ⊎ ((n : ℕ) × (r ≡ pos n))
  search_decides z = by S.finding S.number
    where
      by : (F : Finding (search_refusal ds (length table) (length work)) (design ds)) → r ≡ count_code (answer_of F) → (r ≡ refusal_code 16) ⊎ ((n : ℕ) × (r ≡ pos n))
      by (declined n) e = absurd (n z)
      by (none _ w) e = inl e
      by (found _ cs few right works) e = inr (records cs, e)

-- ---- the tick
module _ {cs : List ℕ} {runner runner' : Runner} {xs : List Event} {r : ℤ} (T : TickCall cs runner xs r runner') where
  -- 0: it is done, and the runner is the one that the tick gives
  pub tick_done : (r ≡ pos 0) ↔ (((ticked cs runner xs).answer ≡ done tt) × (runner' ≡ (ticked cs runner xs).runner))
  tick_done = (λ e. ((tick_does T).0 e, T.leaves_runner), λ p. (tick_does T).1 p.0)

  -- -k: it is refused with k, and the runner is as it was
  pub tick_refused : (k : ℕ) → 0 < k → (r ≡ refusal_code k) ↔ (((ticked cs runner xs).answer ≡ refused k) × (runner' ≡ runner))
  tick_refused k h =
      let is = tick_declines T k h in
      (λ e. (is.0 e, T.leaves_runner ∙ refused_unchanged runner cs xs k (is.0 e)), λ p. is.1 p.0)

-- ---- the writer
module _ {cs blocks blocks' : List ℕ} {r : ℤ} (W : WriteCall cs blocks r blocks') where
  abbrev write_refused : ℕ
  write_refused = write_refusal cs (length blocks)

  -- a count: nothing is refused, and so many blocks hold the records
  pub write_counts : (n : ℕ) → (r ≡ pos n) ↔ ((write_refusal cs (length blocks) ≡ 0) × (n ≡ blocks_for (records cs)))
  write_counts =
      let so_many = done (blocks_for (records cs)) in
      counts_exactly r write_refused (blocks_for (records cs))
      (λ z. W.number ∙ ap count_code (where_none write_refused so_many (refused write_refused) z))
      (λ n. W.number ∙ ap count_code (where_some write_refused so_many (refused write_refused) n))

  -- then they stand at the front of what was lent
  pub write_leaves : (n : ℕ) → r ≡ pos n → blocks' ≡ put blocks 0 (written cs)
  write_leaves n e = W.leaves_blocks ∙ where_none write_refused (put blocks 0 (written cs)) blocks ((write_counts n).0 e).0

-- ---- the block reader
module _ {bs lent lent' : List ℕ} {r : ℤ} (R : ReadCall bs lent r lent') where
  abbrev read_refused : ℕ
  read_refused = read_refusal bs (length lent)

  pub read_counts : (n : ℕ) → (r ≡ pos n) ↔ ((read_refusal bs (length lent) ≡ 0) × (n ≡ file_count bs))
  read_counts =
      let so_many = done (file_count bs) in
      counts_exactly r read_refused (file_count bs)
      (λ z. R.number ∙ ap count_code (where_none read_refused so_many (refused read_refused) z))
      (λ n. R.number ∙ ap count_code (where_some read_refused so_many (refused read_refused) n))

  pub read_leaves : (n : ℕ) → r ≡ pos n → lent' ≡ put lent 0 (file_records bs)
  read_leaves n e = R.leaves_converter ∙ where_none read_refused (put lent 0 (file_records bs)) lent ((read_counts n).0 e).0

-- ---- waits known by range
module _ {ds es lent lent' : List ℕ} {r : ℤ} (R : RangesCall ds es lent r lent') where
  abbrev declined_by : ℕ
  declined_by = ranges_refusal ds es (length lent)

  is_done : declined_by ≡ 0 → r ≡ pos 0
  is_done z = R.number ∙ ap done_code (where_none declined_by (done tt) (refused declined_by) z)

  is_refusal : (declined_by ≡ 0 → ⊥) → r ≡ refusal_code declined_by
  is_refusal n = R.number ∙ ap done_code (where_some declined_by (done tt) (refused declined_by) n)

  -- 0: nothing is refused
  pub ranges_done : (r ≡ pos 0) ↔ (ranges_refusal ds es (length lent) ≡ 0)
  ranges_done = (λ e. ((counts_exactly r declined_by 0 is_done is_refusal 0).0 e).0, is_done)

  -- -k: it is refused with k, and all is as it was
  pub ranges_refused : (k : ℕ) → 0 < k → (r ≡ refusal_code k) ↔ ((ranges_refusal ds es (length lent) ≡ k) × (lent' ≡ lent))
  ranges_refused k h =
      let is = refuses_exactly r declined_by 0 is_done is_refusal k h in
      (λ e. (is.0 e, R.leaves_result ∙ where_some declined_by (put lent 0 (ranged_design ds es)) lent (λ z. omega (arith, is.0 e))), λ p. is.1 p.0)

  module _ (e : r ≡ pos 0) where
    -- what the call itself promises
    replaces : Ranges ds es lent (Ok tt) lent'
    replaces = record { answers = sym (where_none declined_by (done tt) (refused declined_by) (ranges_done.0 e)); leaves = R.leaves_result }

    -- then the new design is at the front of what was lent, is not refused itself, and each side runs as the ranges allow the old one
    pub ranges_leaves : lent' ≡ put lent 0 (ranged_design ds es)
    ranges_leaves = written_there ds es lent lent' replaces

    pub ranges_passes : design_refusal (part lent' 0 (length ds)) ≡ 0
    ranges_passes = result_passes ds es lent lent' replaces

    pub ranges_runs : (i : ℕ) → i < side_count → (evs : List Event) (ws : List ℕ)
        → Takes (side (design (part lent' 0 (length ds))) i) 0 evs ws ↔ TakesUnder (side (design ds) i) (side_ranges es i) (entered 0) evs ws
    ranges_runs = result_runs ds es lent lent' replaces

-- ---- typed rules
module _ {text lent lent' : List ℕ} {r : ℤ} (R : RulesCall text lent r lent') where
  abbrev rules_refused_by : ℕ
  rules_refused_by = rules_refusal R.reading (length lent)

  abbrev all_rules : ℕ
  all_rules = length (rules_of R.reading)

  is_count : rules_refused_by ≡ 0 → r ≡ pos all_rules
  is_count z = R.number ∙ ap count_code (where_none rules_refused_by (done all_rules) (refused rules_refused_by) z)

  is_declined : (rules_refused_by ≡ 0 → ⊥) → r ≡ refusal_code rules_refused_by
  is_declined n = R.number ∙ ap count_code (where_some rules_refused_by (done all_rules) (refused rules_refused_by) n)

  -- a count: nothing is refused, and so many rules are the text's
  pub rules_counts : (n : ℕ) → (r ≡ pos n) ↔ ((rules_refusal R.reading (length lent) ≡ 0) × (n ≡ length (rules_of R.reading)))
  rules_counts = counts_exactly r rules_refused_by all_rules is_count is_declined

  -- -k: it is refused with k, and all is as it was
  pub rules_refused : (k : ℕ) → 0 < k → (r ≡ refusal_code k) ↔ ((rules_refusal R.reading (length lent) ≡ k) × (lent' ≡ lent))
  rules_refused k h =
      let is = refuses_exactly r rules_refused_by all_rules is_count is_declined k h in
      (λ e. (is.0 e, R.leaves_blocks ∙ where_some rules_refused_by (put lent 0 (rule_blocks (formulas_for (rules_of R.reading)))) lent (λ z. omega (arith, is.0 e))), λ p. is.1 p.0)

  module _ (n : ℕ) (e : r ≡ pos n) where
    -- what the call itself promises
    rules_read : Ruling text lent (Ok n) lent'
    rules_read =
        let w = (rules_counts n).0 e in
        record {
          reading = R.reading;
          answers = ap done w.1 ∙ sym (where_none rules_refused_by (done all_rules) (refused rules_refused_by) w.0);
          leaves = R.leaves_blocks;
        }

    -- then the text is of the grammar, and reads as these rules
    pub rules_of_the_text : Lines text (rules_of R.reading) × (n ≡ length (rules_of R.reading))
    unfolding rules_read
    rules_of_the_text = of_the_grammar text lent n lent' rules_read

    -- of a design made of sides, two or three, and the blocks, rule i holds exactly where line i does, and it isn't refused where its sides are not
    pub rules_hold : (ss : List ℕ) (sides : ℕ) → length ss ≡ block_bytes * sides → (i : ℕ) → i < n → (M : System) (s : M.State)
        → Holds M (formula (design (ss ++ part lent' 0 (2 * block_bytes))).forms (get_or (design (ss ++ part lent' 0 (2 * block_bytes))).rules i 0)) s
        ↔ Means M (get_or (rules_of R.reading) i (constant false)) s
    unfolding rules_read
    rules_hold = line_holds text lent n lent' rules_read

    pub rules_accepted : (ss : List ℕ) (sides : ℕ) → length ss ≡ block_bytes * sides → least_sides ≤ sides → sides ≤ side_count → SidesPass ss sides
        → design_refusal (ss ++ part lent' 0 (2 * block_bytes)) ≡ 0
    rules_accepted = design_accepted text lent n lent' rules_read

-- ---- the positions
module _ (ds : List ℕ) where
  -- a count: nothing is refused, and it is the number of positions
  pub positions_count : (n : ℕ) → (positions_number ds ≡ pos n) ↔ ((positions_refusal ds ≡ 0) × (n ≡ positions (design ds)))
  positions_count = counts_exactly (positions_number ds) (positions_refusal ds) (positions (design ds)) (number_taken ds) (number_refused ds)

  module _ (n : ℕ) (e : positions_number ds ≡ pos n) where
    -- from 1 to 65,536
    pub positions_within : (1 ≤ n) × (n ≤ most_positions)
    positions_within =
        let p = (positions_count n).0 e in
        let a = taken ds p.0 in
        (omega (arith, p.1, some_position ds a.refusal), omega (arith, p.1, a.few))

    -- a search that is lent so much for each of them is refused nothing, so it decides
    pub lent_enough : (table work : ℕ) → record_bytes * n ≤ table → cell_bytes * n ≤ work → search_refusal ds table work ≡ 0
    unfolding first_failing
    lent_enough table work t w =
        let p = (positions_count n).0 e in
        let a = taken ds p.0 in
        let m = positions (design ds) in
        search_refused.refused_behind ds table work a.refusal
        ∙ rw (le-leb m most_positions a.few, le-leb (record_bytes * m) table (omega (arith, p.1)), le-leb (cell_bytes * m) work (omega (arith, p.1)))
