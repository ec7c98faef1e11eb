-- A tick by its refusal: what has passed where there is none, and what the tick is then and otherwise.
use mathlib.Core.Path.{◌≡◌, refl}
use mathlib.Core.Bool.{Bool, true, false, cond}
use mathlib.Core.List.{List}
use mathlib.Core.Option.{Option, none, some}
use Prim.Native.Nat.{ℕ, ◌*◌, ◌<◌}
use native.Mathlib.Omega.{arith}
use borrow.Author.Tests.{ltb-true, eq-eqb, ne_eqb}
use lib.Dec.{lit<, eqb}
use Rattle.model.specs.Events.{Event}
use Rattle.model.specs.Converters.{Edge, node}
use Rattle.model.specs.Judged.{all}
use Rattle.model.specs.Runs.{first_fit}
use Rattle.layout.specs.Sizes.{record_bytes}
use Rattle.layout.specs.Converters.{records, converter}
use Rattle.refusals.specs.Answered as by_number
use Rattle.refusals.specs.Refusals.{size_right, record_right}
use Rattle.refusals.proofs.Passing.{passed}
use Rattle.runner.specs.declared.Runner.{Runner}
use Rattle.runner.specs.Ticks.{can_show, tick_refusal, refused, taken, ticked}

-- what the tests of a tick at record c ask
pub record Passes (cs : List ℕ) (c : ℕ) (xs : List Event) : Type 0 where
  pub sized : size_right cs ≡ true
  pub there : c < records cs
  pub right : record_right cs (records cs) (record_bytes * c) ≡ true
  pub shown : all can_show xs ≡ true

pub passes : (cs : List ℕ) (c : ℕ) (xs : List Event) → tick_refusal cs c xs ≡ 0 → Passes cs c xs
unfolding tick_refusal
passes cs c xs e =
    let p = passed _ _ (lit< tt) e in
    let q = passed _ _ (lit< tt) p.1 in
    let r = passed _ _ (lit< tt) q.1 in
    let s = passed _ _ (lit< tt) r.1 in
    record { sized = p.0; there = ltb-true c (records cs) q.0; right = r.0; shown = s.0 }

module _ (cs : List ℕ) (r : Runner) (xs : List Event) where
  pub goes_on : tick_refusal cs r.«record» xs ≡ 0 → ticked cs r xs ≡ taken r (first_fit xs (node (converter cs) r.«record»).edges)
  unfolding ticked
  goes_on e = rw (eq-eqb (tick_refusal cs r.«record» xs) 0 e)

  pub stays : (tick_refusal cs r.«record» xs ≡ 0 → ⊥) → ticked cs r xs ≡ refused r (tick_refusal cs r.«record» xs)
  unfolding ticked
  stays n = rw (ne_eqb (tick_refusal cs r.«record» xs) 0 n)

-- ---- a refusal changes nothing
module _ (r : Runner) where
  taken_unchanged : (o : Option Edge) (k : ℕ) → (taken r o).answer ≡ by_number.refused k → (taken r o).runner ≡ r
  unfolding taken
  taken_unchanged none k e = refl
  taken_unchanged (some x) k e = let z : ◌≡◌ {A = ℕ} 0 1 = cc in absurd (omega arith)

  by_test : (b : Bool) (n k : ℕ) (o : Option Edge) → (cond b (taken r o) (refused r n)).answer ≡ by_number.refused k → (cond b (taken r o) (refused r n)).runner ≡ r
  by_test true n k o e = taken_unchanged o k e
  by_test false n k o e = refl

  pub refused_unchanged : (cs : List ℕ) (xs : List Event) (k : ℕ) → (ticked cs r xs).answer ≡ by_number.refused k → (ticked cs r xs).runner ≡ r
  unfolding ticked
  refused_unchanged cs xs k e = by_test (eqb (tick_refusal cs r.«record» xs) 0) (tick_refusal cs r.«record» xs) k (first_fit xs (node (converter cs) r.«record»).edges) e
