use mathlib.Core.Path.{◌≡◌}
use mathlib.Core.List.{◌++◌}
use Prim.Native.Nat.{ℕ, ◌+◌, ◌-◌, ◌≤◌}
use Rattle.layout.specs.Sizes.{most_formulas}
use Rattle.rules.specs.declared.records.Store.{Store}
use Rattle.rules.specs.Making.{front, entries, unwound}
use Rattle.rules.proofs.records.Store.unwind.Given as goal

-- the entries above have their records
pub record Unwinding (base : ℕ) (s₀ s : Store) : Type 0 where
  pub above : base ≤ s.height
  pub below : s.height ≤ s₀.height
  pub counted : s.count ≡ s₀.count + (s₀.height - s.height)
  pub made : s₀.count + s₀.height ≤ most_formulas
      → front s.records s.count ≡ front s₀.records s₀.count ++ unwound s₀.count (entries s₀.pending s.height (s₀.height - s.height))
  pub pending : s.pending ≡ s₀.pending

abbrev pub invariant-loop-self : goal.invariant-loop-self
invariant-loop-self l = Unwinding l.base l.initial.self l.self

abbrev pub decreases-loop-self : goal.decreases-loop-self
decreases-loop-self l = l.self.height - l.base
