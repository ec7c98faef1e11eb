use mathlib.Core.Path.{◌≡◌}
use mathlib.Core.List.{List}
use Prim.Native.Nat.{ℕ, ◌-◌}
use lib.ListN.{length}
use Rattle.layout.specs.Sizes.{most_rules}
use Rattle.rules.specs.declared.lines.Text.{Text}
use Rattle.rules.specs.declared.records.Store.{Store}
use Rattle.rules.proofs.Lined.{Lined}
use Rattle.rules.proofs.lines.read_lines.Given as goal

-- the lines before `at` are read
pub record Lining (text : List ℕ) (at : ℕ) (t : Text) (s : Store) (us : List ℕ) : Type 0 where
  pub lined : Lined text at t.rules t.count t.grade s.records us
  pub all_rules : length us ≡ most_rules
  pub count : s.count ≡ t.count
  pub height : s.height ≡ 0

abbrev pub invariant-loop-at : goal.invariant-loop-at
invariant-loop-at l = Lining l.text l.at l.read l.store l.rules

abbrev pub decreases-loop-at : goal.decreases-loop-at
decreases-loop-at l = length l.text - l.at
