-- How an answer is a number of C: a refusal k is -k, any other answer is a count, or 0 for "yes" and "done".
use Rattle.std.specs.Prelude.{ℕ, ℤ, pos, neg_ℤ}
use Rattle.refusals.specs.Answered.{Answer, done, refused}
use Rattle.judge.specs.declared.quick.Outcome.{Outcome as Told}
use Rattle.judge.specs.declared.quick.Outcome.TheVariants as told

abbrev pub refusal_code : ℕ → ℤ
refusal_code k = neg_ℤ (pos k)

-- of the search, the writer, the block reader and typed rules
abbrev pub count_code : Answer ℕ → ℤ
count_code (done n) = pos n
count_code (refused k) = refusal_code k

-- of the judge, the tick and waits known by range
abbrev pub done_code : Answer (Unit {0}) → ℤ
done_code (done x) = pos 0
done_code (refused k) = refusal_code k

-- the place of a rule stands beside 15
abbrev pub verdict_code : Answer Told → ℤ
verdict_code (done told.Yes) = pos 0
verdict_code (done (told.Fails k)) = refusal_code 15
verdict_code (refused k) = refusal_code k
