-- `Store::unwind` meets its contract.
use mathlib.Core.Path.{◌≡◌, refl, sym, ap, ap₂, ◌∙◌}
use mathlib.Core.List.{List, ◌++◌, append_assoc, append-nil}
use Prim.Native.Nat.{ℕ, suc, ◌+◌, ◌-◌, ◌≤◌, ◌<◌}
use native.Mathlib.Omega.{arith}
use Rattle.rules.specs.declared.records.Store.{Store}
use Rattle.rules.specs.declared.records.Entry.{Entry}
use Rattle.rules.specs.Making.{front, closing, entry, entries, unwound}
use Rattle.rules.specs.Stores.{Pops, Unwinds}
use Rattle.rules.proofs.Pile.{unwound_first}
use Rattle.rules.proofs.records.Store.unwind.Invariants.{Unwinding}
use Rattle.rules.proofs.records.Store.unwind.Goals as goal

at_first : (base : ℕ) (s : Store) → base ≤ s.height → Unwinding base s s
unfolding entries unwound
at_first base s b =
    let z : s.height - s.height ≡ 0 = omega arith in
    record {
      above = b;
      below = omega arith;
      counted = omega arith;
      made = λ f. sym (ap (λ (k : ℕ). front s.records s.count ++ unwound s.count (entries s.pending s.height k)) z ∙ append-nil (front s.records s.count));
      pending = refl;
    }

one_more : {base : ℕ} {s₀ s s' : Store} → base < s.height → Pops s s' → Unwinding base s₀ s → Unwinding base s₀ s'
one_more {s₀ = s₀} {s} {s'} l p u =
    let h = s'.height in
    let c = u.counted in
    let k : s₀.height - h ≡ suc (s₀.height - s.height) = omega (arith, p.height, u.below) in
    let i : h + 1 ≡ s.height = omega (arith, p.height) in
    let own = closing (entry s₀.pending h) s.count in
    record {
      above = omega (arith, p.height);
      below = omega (arith, p.height, u.below);
      counted = omega (arith, p.height, p.counted, u.below);
      made =
          λ f.
          ap (front s'.records) p.counted ∙ p.closed (omega (arith, u.below)) (omega (arith, u.below))
          ∙ ap₂ (λ (xs ys : List ℕ). xs ++ ys) (u.made f) (ap₂ (λ (ps : List Entry) (j : ℕ). closing (entry ps j) s.count) u.pending (sym p.height))
          ∙ append_assoc (front s₀.records s₀.count) (unwound s₀.count (entries s₀.pending s.height (s₀.height - s.height))) own
          ∙ ap (λ (xs : List ℕ). front s₀.records s₀.count ++ xs)
          (sym
          (ap (λ (m : ℕ). unwound s₀.count (entries s₀.pending h m)) k ∙ unwound_first s₀.pending s₀.count h (s₀.height - s.height)
          ∙ ap₂ (λ (j m : ℕ). unwound s₀.count (entries s₀.pending j (s₀.height - s.height)) ++ closing (entry s₀.pending h) m) i (sym c)));
      pending = p.pending ∙ u.pending;
    }

at_last : {base : ℕ} {s₀ s : Store} → s.height ≤ base → Unwinding base s₀ s → Unwinds base s₀ s
at_last {base} {s₀} {s} l u =
    let e : s.height ≡ base = omega (arith, u.above) in
    record {
      unwound =
          record {
            counted = u.counted ∙ ap (λ (h : ℕ). s₀.count + (s₀.height - h)) e;
            made = λ f. u.made f ∙ ap (λ (h : ℕ). front s₀.records s₀.count ++ unwound s₀.count (entries s₀.pending h (s₀.height - h))) e;
          };
      pending = u.pending;
      height = e;
    }

pub loop-self-init : goal.loop-self-init
loop-self-init c = at_first c.args.base c.args.self.now c.requires.1

pub pop-requires : goal.pop-requires
pop-requires c =
    let u = c.loop-self.invariant in
    (omega (arith, c.loop-self-test.true), omega (arith, u.counted), omega (arith, u.counted, u.above, u.below, c.loop-self-test.true))

pub loop-self-preserved : goal.loop-self-preserved
loop-self-preserved c = one_more c.loop-self-test.true c.pop.ensures c.loop-self.invariant

pub returns : goal.returns
returns c = at_last c.loop-self-test.false c.loop-self.invariant
