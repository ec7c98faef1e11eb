-- Nobody has to believe this: two parts joined by a record.
use Rattle.std.specs.Prelude.{◌≡◌, [], ◌∷◌, ◌+◌, ◌-◌, ◌%◌}
use Rattle.rules.specs.declared.parts.Part.{Part}
use Rattle.rules.specs.declared.records.Store.{Store}
use Rattle.rules.specs.declared.records.Kind.{Kind}
use Rattle.rules.specs.Making.{number}
use Rattle.rules.specs.Stores.{Adds}
use Rattle.rules.specs.Grades.{worse}

pub record Joins (kind : Kind) (left right : Part) (s : Store) (p : Part) (s' : Store) : Type 0 where
  pub part : p ≡ record { next = right.next; count = right.count + 1; grade = worse left.grade right.grade }
  pub adds : Adds (number kind ∷ (left.count - 1) % 256 ∷ (right.count - 1) % 256 ∷ 0 ∷ []) s s'
