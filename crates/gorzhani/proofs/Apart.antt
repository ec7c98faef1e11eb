-- From a call's number back to its answer. Two answers have the same number only where one is a refusal 0, and no call gives that.
use mathlib.Core.Path.{◌≡◌, refl, sym, ap, ◌∙◌}
use mathlib.Core.Bool.{cond}
use mathlib.Core.List.{List}
use mathlib.Core.Logic.{◌↔◌}
use mathlib.Core.Option.{Option, none, some}
use Prim.Native.Nat.{ℕ, zero, suc, ◌<◌}
use native.Mathlib.Decide.{ℕ_discrete}
use native.Mathlib.Omega.{arith}
use lib.Dec.{eqb}
use lib.IntN.{ℤ, pos}
use lib.ListN.{length}
use Rattle.model.specs.Events.{Event}
use Rattle.model.specs.Designs.{Design}
use Rattle.model.specs.Converters.{Edge, node}
use Rattle.model.specs.Judged.{Verdict as Judgement, accepted, unmatched, violated, judged}
use Rattle.model.specs.Blame.{first_fault}
use Rattle.model.specs.Runs.{first_fit}
use Rattle.layout.specs.Designs.{design}
use Rattle.layout.specs.Converters.{converter}
use Rattle.refusals.specs.Answered.{Answer, done, refused}
use Rattle.refusals.proofs.ByRefusal.{where_none, where_some}
use Rattle.search.specs.Search as search
use Rattle.judge.specs.Judge as judge
use Rattle.judge.specs.declared.quick.Outcome.{Outcome as Told}
use Rattle.judge.specs.declared.quick.Outcome.TheVariants as told
use Rattle.judge.specs.Quick as quick
use Rattle.runner.specs.declared.Runner.{Runner}
use Rattle.runner.specs.Ticks.{Ticked, tick_refusal, taken, ticked}
use Rattle.runner.proofs.Refusals.{goes_on, stays}
use Rattle.gorzhani.specs.Codes.{refusal_code, count_code, done_code, verdict_code}
use Rattle.gorzhani.specs.Calls.{SearchCall, JudgeCall, place_after, VerdictCall, TickCall}

-- ---- the numbers: a refusal that isn't 0 is no count, and no other refusal
no_count : (k n : ℕ) → refusal_code k ≡ pos n → k ≡ 0
no_count zero n e = refl
no_count (suc k) n e = let z : ◌≡◌ {A = ℕ} 0 1 = cc in absurd (omega arith)

same_refusal : (j k : ℕ) → refusal_code j ≡ refusal_code k → j ≡ k
same_refusal zero k e = sym (no_count k 0 (sym e))
same_refusal (suc j) zero e = no_count (suc j) 0 e
same_refusal (suc j) (suc k) e = let p : j ≡ k = cc in ap suc p

-- so of a number that is the count m where k is 0, and otherwise the refusal k
pub counts_exactly : (r : ℤ) (k m : ℕ) → (k ≡ 0 → r ≡ pos m) → ((k ≡ 0 → ⊥) → r ≡ refusal_code k) → (n : ℕ) → (r ≡ pos n) ↔ ((k ≡ 0) × (n ≡ m))
counts_exactly r k m passes refuses n = (λ e. by e (ℕ_discrete k 0), λ p. passes p.0 ∙ ap pos (sym p.1))
  where
    by : r ≡ pos n → Dec (k ≡ 0) → (k ≡ 0) × (n ≡ m)
    by e (yes z) = (z, cc (passes z))
    by e (no x) = absurd (x (no_count k n (sym (refuses x) ∙ e)))

-- and it is the refusal n, not 0, exactly where k is n
pub refuses_exactly : (r : ℤ) (k m : ℕ) → (k ≡ 0 → r ≡ pos m) → ((k ≡ 0 → ⊥) → r ≡ refusal_code k) → (n : ℕ) → 0 < n → (r ≡ refusal_code n) ↔ (k ≡ n)
refuses_exactly r k m passes refuses n h = (λ e. by e (ℕ_discrete k 0), λ e. refuses (λ z. omega arith) ∙ ap refusal_code e)
  where
    by : r ≡ refusal_code n → Dec (k ≡ 0) → k ≡ n
    by e (yes z) = let w = no_count n m (sym e ∙ passes z) in absurd (omega arith)
    by e (no x) = same_refusal k n (sym (refuses x) ∙ e)

-- ---- an answer that is a count
found_number : (a : Answer ℕ) (n : ℕ) → (a ≡ refused 0 → ⊥) → count_code a ≡ pos n → a ≡ done n
found_number (done m) n x e = let p : m ≡ n = cc in ap done p
found_number (refused k) n x e = absurd (x (ap refused (no_count k n e)))

declined_number : (a : Answer ℕ) (k : ℕ) → 0 < k → count_code a ≡ refusal_code k → a ≡ refused k
declined_number (done n) k h e = let z = no_count k n (sym e) in absurd (omega arith)
declined_number (refused j) k h e = ap refused (same_refusal j k e)

-- the search gives no refusal 0
search_gives : {k : ℕ} {D : Design} (F : search.Finding k D) → search.answer_of F ≡ refused 0 → ⊥
search_gives {k} (search.declined n) e = n (cc)
search_gives (search.none _ w) e = let z : ◌≡◌ {A = ℕ} 16 0 = cc in omega arith
search_gives (search.found _ cs few right works) e = let z : ◌≡◌ {A = ℕ} 0 1 = cc in omega arith

module _ {ds table work table' work' : List ℕ} {r : ℤ} (S : SearchCall ds table work r table' work') where
  pub search_finds : (n : ℕ) → (r ≡ pos n) ↔ (search.answer_of S.finding ≡ done n)
  search_finds n = (λ e. found_number (search.answer_of S.finding) n (search_gives S.finding) (sym S.number ∙ e), λ e. S.number ∙ ap count_code e)

  pub search_declines : (k : ℕ) → 0 < k → (r ≡ refusal_code k) ↔ (search.answer_of S.finding ≡ refused k)
  search_declines k h = (λ e. declined_number (search.answer_of S.finding) k h (sym S.number ∙ e), λ e. S.number ∙ ap count_code e)

-- ---- an answer that is "yes" or "done"
yes_number : (a : Answer (Unit {0})) → (a ≡ refused 0 → ⊥) → done_code a ≡ pos 0 → a ≡ done tt
yes_number (done y) x e = refl
yes_number (refused k) x e = absurd (x (ap refused (no_count k 0 e)))

no_number : (a : Answer (Unit {0})) (k : ℕ) → 0 < k → done_code a ≡ refusal_code k → a ≡ refused k
no_number (done y) k h e = let z = no_count k 0 (sym e) in absurd (omega arith)
no_number (refused j) k h e = ap refused (same_refusal j k e)

-- the judge gives no refusal 0
judgement_gives : (j : Judgement) → judge.answer_of j ≡ refused 0 → ⊥
judgement_gives accepted e = let z : ◌≡◌ {A = ℕ} 0 1 = cc in omega arith
judgement_gives unmatched e = let z : ◌≡◌ {A = ℕ} 14 0 = cc in omega arith
judgement_gives violated e = let z : ◌≡◌ {A = ℕ} 15 0 = cc in omega arith

judge_gives : (k : ℕ) (j : Judgement) → cond (eqb k 0) (judge.answer_of j) (refused k) ≡ refused 0 → ⊥
judge_gives k j e =
    elim (ℕ_discrete k 0) [
      | yes z ↦ judgement_gives j (sym (where_none k (judge.answer_of j) (refused k) z) ∙ e)
      | no n ↦ n (cc (where_some k (judge.answer_of j) (refused k) n))
    ]

module _ {ds cs work list work' list' : List ℕ} {r : ℤ} (J : JudgeCall ds cs work list r work' list') where
  pub judge_accepts : (r ≡ pos 0) ↔ (judge.judge_answer ds cs (length work) (length list) ≡ done tt)
  judge_accepts = (
    λ e. yes_number (judge.judge_answer ds cs (length work) (length list)) (judge_gives (judge.judge_refusal ds cs (length work) (length list)) (judged (design ds) (converter cs))) (sym J.number ∙ e),
    λ e. J.number ∙ ap done_code e,
  )

  pub judge_declines : (k : ℕ) → 0 < k → (r ≡ refusal_code k) ↔ (judge.judge_answer ds cs (length work) (length list) ≡ refused k)
  judge_declines k h = (λ e. no_number (judge.judge_answer ds cs (length work) (length list)) k h (sym J.number ∙ e), λ e. J.number ∙ ap done_code e)

-- ---- the quick verdict
told_yes : (a : Answer Told) → (a ≡ refused 0 → ⊥) → verdict_code a ≡ pos 0 → a ≡ done told.Yes
told_yes (done told.Yes) x e = refl
told_yes (done (told.Fails k)) x e = let z = no_count 15 0 e in absurd (omega arith)
told_yes (refused k) x e = absurd (x (ap refused (no_count k 0 e)))

told_refused : (a : Answer Told) (k : ℕ) → 0 < k → (k ≡ 15 → ⊥) → verdict_code a ≡ refusal_code k → a ≡ refused k
told_refused (done told.Yes) k h n e = let z = no_count k 0 (sym e) in absurd (omega arith)
told_refused (done (told.Fails j)) k h n e = absurd (n (sym (same_refusal 15 k e)))
told_refused (refused j) k h n e = ap refused (same_refusal j k e)

-- a place stands beside 15, and then the byte lent for it has it
told_fails : (a : Answer Told) (p : ℕ) → (a ≡ refused 15 → ⊥) → verdict_code a ≡ refusal_code 15 → a ≡ done (told.Fails (place_after a p))
told_fails (done told.Yes) p x e = let z = no_count 15 0 (sym e) in absurd (omega arith)
told_fails (done (told.Fails k)) p x e = refl
told_fails (refused k) p x e = absurd (x (ap refused (same_refusal k 15 e)))

-- beside any other number the byte is as it was
told_keeps : (a : Answer Told) (p : ℕ) → (verdict_code a ≡ refusal_code 15 → ⊥) → place_after a p ≡ p
told_keeps (done told.Yes) p n = refl
told_keeps (done (told.Fails k)) p n = absurd (n refl)
told_keeps (refused k) p n = refl

-- the number of what is told is the judge's number for it
pub same_code : (a : Answer Told) → done_code (quick.as_judge a) ≡ verdict_code a
same_code (done told.Yes) = refl
same_code (done (told.Fails k)) = refl
same_code (refused k) = refl

-- it gives no refusal 0
outcome_gives : (j : Judgement) (k : ℕ) → quick.outcome_of j k ≡ refused 0 → ⊥
outcome_gives accepted k e = let z : ◌≡◌ {A = ℕ} 0 1 = cc in omega arith
outcome_gives unmatched k e = let z : ◌≡◌ {A = ℕ} 14 0 = cc in omega arith
outcome_gives violated k e = let z : ◌≡◌ {A = ℕ} 0 1 = cc in omega arith

verdict_gives : (k : ℕ) (o : Answer Told) → (o ≡ refused 0 → ⊥) → cond (eqb k 0) o (refused k) ≡ refused 0 → ⊥
verdict_gives k o x e =
    elim (ℕ_discrete k 0) [
      | yes z ↦ x (sym (where_none k o (refused k) z) ∙ e)
      | no n ↦ n (cc (where_some k o (refused k) n))
    ]

module _ {ds cs work work' : List ℕ} {rule rule' : ℕ} {r : ℤ} (Q : VerdictCall ds cs work rule r work' rule') where
  abbrev answer : Answer Told
  answer = quick.verdict_answer ds cs (length work)

  pub verdict_accepts : (r ≡ pos 0) ↔ (quick.verdict_answer ds cs (length work) ≡ done told.Yes)
  verdict_accepts = (
    λ e. told_yes answer
        (verdict_gives (quick.verdict_refusal ds cs (length work)) (quick.outcome_of (judged (design ds) (converter cs)) (first_fault (design ds) (converter cs)))
        (outcome_gives (judged (design ds) (converter cs)) (first_fault (design ds) (converter cs))))
        (sym Q.number ∙ e),
    λ e. Q.number ∙ ap verdict_code e,
  )

  pub verdict_declines : (k : ℕ) → 0 < k → (k ≡ 15 → ⊥) → (r ≡ refusal_code k) ↔ (quick.verdict_answer ds cs (length work) ≡ refused k)
  verdict_declines k h n = (λ e. told_refused answer k h n (sym Q.number ∙ e), λ e. Q.number ∙ ap verdict_code e)

  pub verdict_blames : (quick.verdict_answer ds cs (length work) ≡ refused 15 → ⊥) → (r ≡ refusal_code 15) → quick.verdict_answer ds cs (length work) ≡ done (told.Fails rule')
  verdict_blames x e = told_fails answer rule x (sym Q.number ∙ e) ∙ ap (λ k. done (told.Fails k)) (sym Q.leaves_rule)

  pub verdict_leaves : (r ≡ refusal_code 15 → ⊥) → rule' ≡ rule
  verdict_leaves n = Q.leaves_rule ∙ told_keeps answer rule (λ e. n (Q.number ∙ e))

-- ---- the tick
-- it gives no refusal 0
taken_gives : (r : Runner) (o : Option Edge) → (taken r o).answer ≡ refused 0 → ⊥
unfolding taken
taken_gives r none e = let z : ◌≡◌ {A = ℕ} 17 0 = cc in omega arith
taken_gives r (some x) e = let z : ◌≡◌ {A = ℕ} 0 1 = cc in omega arith

tick_gives : (cs : List ℕ) (r : Runner) (xs : List Event) → (ticked cs r xs).answer ≡ refused 0 → ⊥
tick_gives cs r xs e =
    elim (ℕ_discrete (tick_refusal cs r.«record» xs) 0) [
      | yes z ↦ taken_gives r (first_fit xs (node (converter cs) r.«record»).edges) (sym (ap (λ (t : Ticked). t.answer) (goes_on cs r xs z)) ∙ e)
      | no n ↦ n (cc (ap (λ (t : Ticked). t.answer) (stays cs r xs n)))
    ]

module _ {cs : List ℕ} {runner runner' : Runner} {xs : List Event} {r : ℤ} (T : TickCall cs runner xs r runner') where
  pub tick_does : (r ≡ pos 0) ↔ ((ticked cs runner xs).answer ≡ done tt)
  tick_does = (λ e. yes_number (ticked cs runner xs).answer (tick_gives cs runner xs) (sym T.number ∙ e), λ e. T.number ∙ ap done_code e)

  pub tick_declines : (k : ℕ) → 0 < k → (r ≡ refusal_code k) ↔ ((ticked cs runner xs).answer ≡ refused k)
  tick_declines k h = (λ e. no_number (ticked cs runner xs).answer k h (sym T.number ∙ e), λ e. T.number ∙ ap done_code e)
