-- Nobody has to believe this: records as they are made, one behind the other, each of four bytes, and the entries that are pending.
use Rattle.std.specs.Prelude.{◌≡◌, Bool, true, false, cond, List, [], ◌∷◌, ◌++◌, ℕ, zero, suc, ◌+◌, ◌-◌, ◌*◌, ◌≤◌, ◌<◌, eqb, length, slice_index_or, take, set}
use Rattle.layout.specs.Sizes.{formula_bytes, most_formulas}
use Rattle.layout.specs.Bytes.{byte}
use Rattle.rules.specs.declared.records.Kind.{Kind}
use Rattle.rules.specs.declared.records.Kind.TheVariants.{True, False, Proposition, Negated, And, Or, Next, Until, Always}
use Rattle.rules.specs.declared.records.Entry.{Entry}

abbrev pub record_room : ℕ
record_room = formula_bytes * most_formulas

-- the first n records
abbrev pub front : List ℕ → ℕ → List ℕ
front rs n = take (formula_bytes * n) rs

-- record number n has the bytes bs, where there is room for it
abbrev pub Added : List ℕ → ℕ → List ℕ → List ℕ → Type 0
Added rs n bs rs' = n < most_formulas → front rs' (n + 1) ≡ front rs n ++ bs

-- ---- negation
unfoldable pub opposite_kind : ℕ → ℕ
opposite_kind k =
    cond (eqb k 1) 2 (cond (eqb k 2) 1 (cond (eqb k 3) 4 (cond (eqb k 4) 3 (cond (eqb k 5) 6 (cond (eqb k 6) 5 k)))))

abbrev pub turned_at : List ℕ → ℕ → List ℕ
turned_at rs i = set rs (formula_bytes * i) (opposite_kind (byte rs (formula_bytes * i)))

-- n records from number i on
unfoldable pub turned_from : List ℕ → ℕ → ℕ → List ℕ
turned_from rs i zero = rs
turned_from rs i (suc n) = turned_from (turned_at rs i) (i + 1) n

-- ---- kinds
abbrev pub number : Kind → ℕ
number True = 1
number False = 2
number Proposition = 3
number Negated = 4
number And = 5
number Or = 6
number Next = 7
number Until = 8
number Always = 9

-- AX and AG have one operand
abbrev pub has_one : Kind → Bool
has_one True = false
has_one False = false
has_one Proposition = false
has_one Negated = false
has_one And = false
has_one Or = false
has_one Next = true
has_one Until = false
has_one Always = true

-- ---- pending entries
-- behind the last stands this
abbrev pub no_entry : Entry
no_entry = record { kind = True; a = 0 }

abbrev pub entry : List Entry → ℕ → Entry
entry ps h = slice_index_or ps h no_entry

-- the first h entries
abbrev pub below : List Entry → ℕ → List Entry
below ps h = take h ps

-- n entries from number h on
unfoldable pub entries : List Entry → ℕ → ℕ → List Entry
entries ps h zero = []
entries ps h (suc n) = entry ps h ∷ entries ps (h + 1) n

pub record Pushed (ps : List Entry) (h : ℕ) (e : Entry) (ps' : List Entry) : Type 0 where
  pub kept : below ps' h ≡ below ps h
  pub pushed : h < most_formulas → entry ps' h ≡ e

-- the record of an entry, where n records are made: AX and AG have the last of these as operand, the others the entry's and it
unfoldable pub closing : Entry → ℕ → List ℕ
closing e n = cond (has_one e.kind) (number e.kind ∷ (n - 1) ∷ 0 ∷ 0 ∷ []) (number e.kind ∷ e.a ∷ (n - 1) ∷ 0 ∷ [])

abbrev pub Closed : List ℕ → List Entry → ℕ → ℕ → List ℕ → Type 0
Closed rs ps h n rs' = h < most_formulas → Added rs n (closing (entry ps h) n) rs'

-- the records of entries, the last entry's first
unfoldable pub unwound : ℕ → List Entry → List ℕ
unwound n [] = []
unwound n (e ∷ es) = unwound n es ++ closing e (n + length es)

pub record Unwound (rs : List ℕ) (ps : List Entry) (base height count r : ℕ) (rs' : List ℕ) : Type 0 where
  pub counted : r ≡ count + (height - base)
  pub made : count + height ≤ most_formulas → front rs' r ≡ front rs count ++ unwound count (entries ps base (height - base))
