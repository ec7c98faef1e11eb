use mathlib.Core.List.{List}
use Prim.Native.Nat.{ℕ, ◌-◌}
use lib.ListN.{length}
use Rattle.typed.specs.Grammar.{closest}
use Rattle.rules.specs.declared.prefixes.Prefixes.{Prefixes}
use Rattle.rules.specs.declared.records.Store.{Store}
use Rattle.rules.specs.Reading.{Begun}
use Rattle.rules.proofs.prefixes.read_prefixes.Given as goal

-- a closest part is begun
pub record Beginning (text : List ℕ) (from : ℕ) (s₀ : Store) (p : Prefixes) (s : Store) : Type 0 where
  pub begun : (room : ℕ) → Begun text closest room from s₀.height s₀.count s₀.records s₀.pending p.next s.height s.count p.grade p.negations p.odd s.records s.pending

abbrev pub invariant-loop-begun : goal.invariant-loop-begun
invariant-loop-begun l = Beginning l.text l.from l.fn.store l.begun l.store

abbrev pub decreases-loop-begun : goal.decreases-loop-begun
decreases-loop-begun l = length l.text - l.begun.next
