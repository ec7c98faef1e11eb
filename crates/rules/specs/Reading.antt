-- Nobody has to believe this: what the readers promise each other.
use Rattle.std.specs.Prelude.{◌≡◌, Bool, true, false, not, Option, Some, None, List, [], ◌∷◌, ◌++◌, ℕ, ◌+◌, ◌-◌, ◌*◌, ◌%◌, ◌≤◌, ◌<◌, length, drop}
use Rattle.layout.specs.Sizes.{most_formulas}
use Rattle.tokens.specs.declared.Operator.{Operator}
use Rattle.tokens.specs.declared.Operator.TheVariants.{Next, Always, Eventually}
use Rattle.tokens.specs.declared.Token.{Token}
use Rattle.tokens.specs.declared.Token.TheVariants as token
use Rattle.tokens.specs.Tokens.{scanned}
use Rattle.typed.specs.Grammar.{Typed, Rank, closest, Reads, Spells}
use Rattle.typed.specs.Parses.{part, Parses, Ends, Ended}
use Rattle.typed.specs.Records.{pushed, formula_for, size, records, forms_to}
use Rattle.rules.specs.declared.parts.Grade.{Grade}
use Rattle.rules.specs.declared.parts.Grade.TheVariants.{Plain, Refused}
use Rattle.rules.specs.declared.parts.Part.{Part}
use Rattle.rules.specs.declared.prefixes.Prefixes.{Prefixes}
use Rattle.rules.specs.declared.records.Kind.{Kind}
use Rattle.rules.specs.declared.records.Kind.TheVariants as kind
use Rattle.rules.specs.declared.records.Store.{Store}
use Rattle.rules.specs.Stores.{Adds}
use Rattle.rules.specs.declared.records.Entry.{Entry}
use Rattle.rules.specs.Making.{number, front, entry, entries, below, unwound}
use Rattle.rules.specs.Grades.{worse, grade, prefixed}

-- the token t stands at `at`, and `next` is the place behind it
pub record Stands (text : List ℕ) (at : ℕ) (t : Token) (next : ℕ) : Type 0 where
  pub token : (scanned (drop at text)).token ≡ t
  pub left : (scanned (drop at text)).rest ≡ drop next text
  pub ahead : at < next
  pub inside : next ≤ length text

-- whether it does
abbrev pub Expecting : List ℕ → ℕ → Token → Option ℕ → Type 0
Expecting text at t (Some next) = Stands text at t next
Expecting text at t None = Ends t (drop at text)

-- Where a reader begins: a place of the text. Two of the records and pending entries at most are made for each byte of it.
pub record Begins (text : List ℕ) (at : ℕ) (s : Store) : Type 0 where
  pub inside : at ≤ length text
  pub slim : s.count + s.height ≤ 2 * at

-- A part of a rank was read. Its records stand behind the others where 20 doesn't refuse it, and they and those of the pending entries have room.
pub record Takes (text : List ℕ) (r : Rank) (room at height count : ℕ) (rs : List ℕ) (ps : List Entry) (p : Part) (rs' : List ℕ) (ps' : List Entry) : Type 0 where
  pub tree : Typed
  pub tokens : List Token
  pub spelled : Spells (drop at text) tokens (drop p.next text)
  pub reads : Reads r room tokens tree
  pub ahead : at < p.next
  pub inside : p.next ≤ length text
  pub graded : p.grade ≡ grade tree
  pub counted : p.count ≡ count + size (formula_for tree)
  pub slim : p.count + 2 * at ≤ 2 * p.next + count
  pub made : (p.grade ≡ Refused → ⊥) → p.count + height ≤ most_formulas → front rs' p.count ≡ front rs count ++ forms_to (records count (formula_for tree))
  pub kept : below ps' height ≡ below ps height

-- no part of a rank stands here
abbrev pub Nothing : Rank → ℕ → List ℕ → Type 0
Nothing r room s = (f : Typed) (s' : List ℕ) → Parses (part r) room s f s' → ⊥

-- A part was read, with as many records as it says, and the pile is as high as it was; or none stands there.
pub record Read (text : List ℕ) (r : Rank) (room at : ℕ) (s : Store) (p : Part) (s' : Store) : Type 0 where
  pub takes : Takes text r room at s.height s.count s.records s.pending p s'.records s'.pending
  pub ends : Ended r (drop p.next text)
  pub count : s'.count ≡ p.count
  pub height : s'.height ≡ s.height

abbrev pub Reading : List ℕ → Rank → ℕ → ℕ → Store → Option Part → Store → Type 0
Reading text r room at s (Some p) s' = Read text r room at s p s'
Reading text r room at s None s' = Nothing r room (drop at text)

-- a name or a constant: one record
pub record Leaf (kind : Kind) (a next : ℕ) (s : Store) (p : Part) (s' : Store) : Type 0 where
  pub part : p ≡ record { next = next; count = s.count + 1; grade = Plain }
  pub adds : Adds (number kind ∷ a % 256 ∷ 0 ∷ 0 ∷ []) s s'

-- ---- prefixes
abbrev pub is_prefix : Token → Bool
is_prefix (token.Name p) = false
is_prefix token.True = false
is_prefix token.False = false
is_prefix token.Not = true
is_prefix (token.Temporal q o) = true
is_prefix (token.Path q) = false
is_prefix token.Until = false
is_prefix token.And = false
is_prefix token.Or = false
is_prefix token.Implies = false
is_prefix token.Open = false
is_prefix token.Close = false
is_prefix token.OpenSquare = false
is_prefix token.CloseSquare = false
is_prefix token.Line = false
is_prefix token.End = false
is_prefix token.Wrong = false

-- the record that an operator makes before its operand's: AF's TRUE; and the entry of an operator where n records are made
abbrev pub trues : Operator → ℕ
trues Next = 0
trues Always = 0
trues Eventually = 1

abbrev pub true_bytes : Operator → List ℕ
true_bytes Next = []
true_bytes Always = []
true_bytes Eventually = 1 ∷ 0 ∷ 0 ∷ 0 ∷ []

abbrev pub opening : Operator → ℕ → Entry
opening Next n = record { kind = kind.Next; a = 0 }
opening Always n = record { kind = kind.Always; a = 0 }
opening Eventually n = record { kind = kind.Until; a = n }

pub record Pended (o : Operator) (h n : ℕ) (rs : List ℕ) (ps : List Entry) (rs' : List ℕ) (ps' : List Entry) : Type 0 where
  pub made : n + trues o ≤ most_formulas → front rs' (n + trues o) ≡ front rs n ++ true_bytes o
  pub kept : below ps' h ≡ below ps h
  pub pushed : h < most_formulas → n < most_formulas → entry ps' h ≡ opening o n

pub record Pends (o : Operator) (s s' : Store) : Type 0 where
  pub pended : Pended o s.height s.count s.records s.pending s'.records s'.pending
  pub count : s'.count ≡ s.count + trues o
  pub height : s'.height ≡ s.height + 1

-- A part is begun: from `from` to `at` stand its prefixes, or the left parts of its arrows. `plug` makes the whole of what is still to be read. h entries are pending and n records
-- made; the part is at least as bad as g; `nots` says whether a negation is among the prefixes, `odd` whether they are odd in number.
pub record Begun (text : List ℕ) (r : Rank) (room from height count : ℕ) (rs : List ℕ) (ps : List Entry) (at h n : ℕ) (g : Grade) (nots odd : Bool) (rs' : List ℕ) (ps' : List Entry) : Type 0 where
  pub plug : Typed → Typed
  pub tokens : List Token
  pub bytes : List ℕ
  pub onward : from ≤ at
  pub inside : at ≤ length text
  pub above : height ≤ h
  pub spelled : Spells (drop from text) tokens (drop at text)
  pub reads : (ts : List Token) (f : Typed) → Reads r room ts f → Reads r room (tokens ++ ts) (plug f)
  pub only : (f : Typed) (s : List ℕ) → Parses (part r) room (drop from text) f s → (e : Typed) × Parses (part r) room (drop at text) e s
  pub graded : (f : Typed) → grade (plug f) ≡ worse g (prefixed nots (grade f))
  pub counted : (f : Typed) → count + size (formula_for (plug f)) + height ≡ n + size (formula_for f) + h
  pub slim : n + h + 2 * from ≤ 2 * at + count + height
  pub paired : nots ≡ false → odd ≡ false
  pub fronted : (g ≡ Refused → ⊥) → n + h ≤ most_formulas → front rs' n ≡ front rs count ++ bytes
  pub made : (f : Typed) → (grade (plug f) ≡ Refused → ⊥) → n + size (formula_for f) + h ≤ most_formulas
      → forms_to (records count (formula_for (plug f))) ≡ bytes ++ (forms_to (records n (pushed (not odd) f)) ++ unwound (n + size (formula_for f)) (entries ps' height (h - height)))
  pub kept : below ps' height ≡ below ps height

-- all the prefixes of a closest part
pub record Prefixing (text : List ℕ) (from : ℕ) (s : Store) (p : Prefixes) (s' : Store) : Type 0 where
  pub begun : (room : ℕ) → Begun text closest room from s.height s.count s.records s.pending p.next s'.height s'.count p.grade p.negations p.odd s'.records s'.pending
  pub stopped : is_prefix (scanned (drop p.next text)).token ≡ false
