-- The call below promises an answer, and the number is the code of that answer: so the exported call promises the number and what is left of each lent byte.
use mathlib.Core.Path.{◌≡◌, ap, ◌∙◌}
use mathlib.Core.List.{List}
use Prim.Native.Nat.{ℕ}
use lib.IntN.{ℤ}
use Rattle.std.specs.Prelude.{Result}
use Rattle.refusals.specs.declared.refusal.Refusal.{Refusal}
use Rattle.refusals.specs.Answered.{answered}
use Rattle.model.specs.Events.{Event}
use Rattle.files.specs.Answers.{Writes, Reads}
use Rattle.search.specs.Search.{Searches}
use Rattle.judge.specs.Judge.{Judges}
use Rattle.judge.specs.declared.quick.Outcome.{Outcome as Told}
use Rattle.judge.specs.Quick.{Tells}
use Rattle.runner.specs.declared.Runner.{Runner}
use Rattle.runner.specs.Ticks.{Ticks}
use Rattle.ranges.specs.Ranges.{Ranges}
use Rattle.rules.specs.Rules.{Ruling}
use Rattle.gorzhani.specs.Codes.{count_code, done_code, verdict_code}
use Rattle.gorzhani.specs.Calls.{SearchCall, JudgeCall, place_after, VerdictCall, WriteCall, ReadCall, TickCall, RangesCall, RulesCall}

module _ {r : ℤ} where
  pub search_promised : {ds table work table' work' : List ℕ} {a : Result ℕ Refusal} → Searches ds table work a table' work' → r ≡ count_code (answered a) → SearchCall ds table work r table' work'
  search_promised p e =
      record {
        finding = p.finding;
        number = e ∙ ap count_code p.answers;
        leaves_table = p.leaves_table;
        leaves_work = p.leaves_work;
        answer = _;
        is = p.answers;
      }

  pub judge_promised : {ds cs work list work' list' : List ℕ} {a : Result (Unit {0}) Refusal} → Judges ds cs work list a work' list' → r ≡ done_code (answered a) → JudgeCall ds cs work list r work' list'
  judge_promised p e = record { number = e ∙ ap done_code p.answers; leaves_work = p.leaves_work; leaves_list = p.leaves_list; answer = _; is = p.answers }

  pub verdict_promised : {ds cs work work' : List ℕ} {rule rule' : ℕ} {a : Result Told Refusal} → Tells ds cs work a work' → r ≡ verdict_code (answered a) → rule' ≡ place_after (answered a) rule → VerdictCall ds cs work rule r work' rule'
  verdict_promised {rule = rule} p e f = record { number = e ∙ ap verdict_code p.answers; leaves_work = p.leaves_work; leaves_rule = f ∙ ap (λ x. place_after x rule) p.answers; answer = _; is = p.answers }

  pub write_promised : {cs blocks blocks' : List ℕ} {a : Result ℕ Refusal} → Writes cs blocks blocks' a → r ≡ count_code (answered a) → WriteCall cs blocks r blocks'
  write_promised p e = record { number = e ∙ ap count_code p.answers; leaves_blocks = p.leaves }

  pub read_promised : {bs converter converter' : List ℕ} {a : Result ℕ Refusal} → Reads bs converter converter' a → r ≡ count_code (answered a) → ReadCall bs converter r converter'
  read_promised p e = record { number = e ∙ ap count_code p.answers; leaves_converter = p.leaves }

  pub tick_promised : {cs : List ℕ} {runner runner' : Runner} {xs : List Event} {a : Result (Unit {0}) Refusal} → Ticks cs runner xs a runner' → r ≡ done_code (answered a) → TickCall cs runner xs r runner'
  tick_promised p e = record { number = e ∙ ap done_code p.answers; leaves_runner = p.leaves }

  pub ranges_promised : {ds es result result' : List ℕ} {a : Result (Unit {0}) Refusal} → Ranges ds es result a result' → r ≡ done_code (answered a) → RangesCall ds es result r result'
  ranges_promised p e = record { number = e ∙ ap done_code p.answers; leaves_result = p.leaves }

  pub rules_promised : {text blocks blocks' : List ℕ} {a : Result ℕ Refusal} → Ruling text blocks a blocks' → r ≡ count_code (answered a) → RulesCall text blocks r blocks'
  rules_promised p e = record { reading = p.reading; number = e ∙ ap count_code p.answers; leaves_blocks = p.leaves }
