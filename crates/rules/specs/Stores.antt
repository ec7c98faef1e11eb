-- Nobody has to believe this: what is done to records and pending entries, and that the others stay as they were.
use Rattle.std.specs.Prelude.{◌≡◌, List, ℕ, ◌+◌, ◌-◌, ◌≤◌}
use Rattle.layout.specs.Sizes.{most_formulas}
use Rattle.rules.specs.declared.records.Entry.{Entry}
use Rattle.rules.specs.declared.records.Store.{Store}
use Rattle.rules.specs.Making.{Added, turned_from, Pushed, Closed, Unwound}

-- one record more
pub record Adds (bs : List ℕ) (s s' : Store) : Type 0 where
  pub added : Added s.records s.count bs s'.records
  pub counted : s'.count ≡ s.count + 1
  pub pending : s'.pending ≡ s.pending
  pub height : s'.height ≡ s.height

-- the records from number n on are negated
pub record Negates (n : ℕ) (s s' : Store) : Type 0 where
  pub turned : s.count ≤ most_formulas → s'.records ≡ turned_from s.records n (s.count - n)
  pub counted : s'.count ≡ s.count
  pub pending : s'.pending ≡ s.pending
  pub height : s'.height ≡ s.height

-- one entry more
pub record Pushes (e : Entry) (s s' : Store) : Type 0 where
  pub records : s'.records ≡ s.records
  pub counted : s'.count ≡ s.count
  pub pushed : Pushed s.pending s.height e s'.pending
  pub height : s'.height ≡ s.height + 1

-- the last entry has its record
pub record Pops (s s' : Store) : Type 0 where
  pub closed : Closed s.records s.pending (s.height - 1) s.count s'.records
  pub counted : s'.count ≡ s.count + 1
  pub pending : s'.pending ≡ s.pending
  pub height : s'.height ≡ s.height - 1

-- the entries from number n on have their records
pub record Unwinds (n : ℕ) (s s' : Store) : Type 0 where
  pub unwound : Unwound s.records s.pending n s.height s.count s'.count s'.records
  pub pending : s'.pending ≡ s.pending
  pub height : s'.height ≡ n
