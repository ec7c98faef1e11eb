use mathlib.Core.Path.{◌≡◌}
use Prim.Native.Nat.{ℕ, ◌-◌, ◌≤◌}
use Rattle.layout.specs.Sizes.{most_formulas}
use Rattle.rules.specs.declared.records.Store.{Store}
use Rattle.rules.specs.Making.{turned_from}
use Rattle.rules.proofs.records.Store.negate.Given as goal

-- what is to be turned from the start is what is still to be turned of the records as they are
pub record Negating (from i : ℕ) (s₀ s : Store) : Type 0 where
  pub same : s₀.count ≤ most_formulas → turned_from s₀.records from (s₀.count - from) ≡ turned_from s.records i (s₀.count - i)
  pub counted : s.count ≡ s₀.count
  pub pending : s.pending ≡ s₀.pending
  pub height : s.height ≡ s₀.height

abbrev pub invariant-loop-i : goal.invariant-loop-i
invariant-loop-i l = Negating l.from l.i l.initial.self l.self
