-- The measures of the cycle: the brackets that may still be opened, and for each of them the readers, from implications down to what stands in brackets.
use mathlib.Core.Path.{◌≡◌}
use mathlib.Core.Bool.{false}
use mathlib.Core.List.{List}
use Prim.Native.Nat.{ℕ, ◌+◌, ◌-◌, ◌*◌}
use lib.ListN.{length}
use Rattle.typed.specs.Grammar.{implication}
use Rattle.rules.specs.declared.parts.Grade.{Grade}
use Rattle.rules.specs.declared.parts.Part.{Part}
use Rattle.rules.specs.declared.readers.Connective.{Connective}
use Rattle.rules.specs.declared.records.Store.{Store}
use Rattle.rules.specs.Reading.{Begun, Stands}
use Rattle.rules.specs.Chains.{sign}
use Rattle.std.specs.Prelude.{Option, Some, None}
use Rattle.rules.proofs.Chained.{Chained, place}
use Rattle.rules.proofs.readers.+reading.Given as goal

abbrev pub decreases-read_until : goal.decreases-read_until
decreases-read_until l = 7 * l.room

abbrev pub decreases-read_bracketed : goal.decreases-read_bracketed
decreases-read_bracketed l = 7 * l.room

abbrev pub decreases-read_atom : goal.decreases-read_atom
decreases-read_atom l = 7 * l.room + 1

abbrev pub decreases-read_closest : goal.decreases-read_closest
decreases-read_closest l = 7 * l.room + 2

abbrev pub decreases-read_conjunction : goal.decreases-read_conjunction
decreases-read_conjunction l = 7 * l.room + 4

abbrev pub decreases-read_chain : goal.decreases-read_chain
decreases-read_chain l = 7 * l.room + place l.chain

abbrev pub decreases-read_implication : goal.decreases-read_implication
decreases-read_implication l = 7 * l.room + 6

-- from `at` on a chain was read
pub record Chaining (c : Connective) (text : List ℕ) (room at : ℕ) (s₀ : Store) (p : Part) (s : Store) : Type 0 where
  pub chained : Chained c text room at s₀.height s₀.count s₀.records s₀.pending p s.records s.pending
  pub count : s.count ≡ p.count
  pub height : s.height ≡ s₀.height

-- and the sign behind it, up to `from`; or nothing
abbrev pub Linking : Connective → List ℕ → ℕ → ℕ → Store → ℕ → Option Part → Store → Type 0
Linking c text room at s₀ from (Some p) s = Chaining c text room at s₀ p s × Stands text p.next (sign c) from
Linking c text room at s₀ from None s = (from ≡ at) × (s ≡ s₀)

abbrev pub invariant-read_chain-loop-store : goal.invariant-read_chain-loop-store
invariant-read_chain-loop-store l = Linking l.chain l.text l.room l.at l.fn.store l.from l.left l.store

abbrev pub decreases-read_chain-loop-store : goal.decreases-read_chain-loop-store
decreases-read_chain-loop-store l = length l.text - l.from

-- from `at` to `from` an implication is begun
pub record Implying (text : List ℕ) (room at : ℕ) (s₀ : Store) (from : ℕ) (g : Grade) (s : Store) : Type 0 where
  pub begun : Begun text implication room at s₀.height s₀.count s₀.records s₀.pending from s.height s.count g false false s.records s.pending

abbrev pub invariant-read_implication-loop-part : goal.invariant-read_implication-loop-part
invariant-read_implication-loop-part l = Implying l.text l.room l.at l.fn.store l.from l.grade l.store

abbrev pub decreases-read_implication-loop-part : goal.decreases-read_implication-loop-part
decreases-read_implication-loop-part l = length l.text - l.from
