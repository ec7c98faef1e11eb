-- The pile of pending entries: entries below a height stay while the pile grows, and the records of a pile are those of its last entry and then those of the others.
use mathlib.Core.Path.{◌≡◌, refl, sym, ap, ap₂, ◌∙◌}
use mathlib.Core.Bool.{true, false}
use mathlib.Core.List.{List, [], ◌∷◌, ◌++◌, append_assoc, append-nil}
use Prim.Native.Nat.{ℕ, zero, suc, ◌+◌, ◌-◌, ◌≤◌, ◌<◌}
use native.Mathlib.Omega.{arith}
use lib.ListN.{length, take, length-append}
use lib.Seq.{get_or-take, take-take}
use Rattle.rules.specs.declared.records.Kind.{Kind}
use Rattle.rules.specs.declared.records.Entry.{Entry}
use Rattle.rules.specs.Making.{number, has_one, no_entry, below, entry, entries, closing, unwound}

pub length_entries : (ps : List Entry) (h n : ℕ) → length (entries ps h n) ≡ n
unfolding entries
length_entries ps h zero = refl
length_entries ps h (suc n) = ap suc (length_entries ps (h + 1) n)

-- the records of one entry more below
pub unwound_first : (ps : List Entry) (count h n : ℕ) → unwound count (entries ps h (suc n)) ≡ unwound count (entries ps (h + 1) n) ++ closing (entry ps h) (count + n)
unfolding entries unwound
unwound_first ps count h n = ap (λ (k : ℕ). unwound count (entries ps (h + 1) n) ++ closing (entry ps h) (count + k)) (length_entries ps (h + 1) n)

-- the records of one entry more above
pub unwound_last : (es : List Entry) (n : ℕ) (e : Entry) → unwound n (es ++ (e ∷ [])) ≡ closing e n ++ unwound (n + 1) es
unfolding unwound
unwound_last [] n e = ap (closing e) (omega arith) ∙ sym (append-nil (closing e n))
unwound_last (x ∷ es) n e =
    let l : n + length (es ++ (e ∷ [])) ≡ n + 1 + length es = omega (arith, length-append es (e ∷ [])) in
    ap₂ ◌++◌ (unwound_last es n e) (ap (closing x) l) ∙ append_assoc (closing e n) (unwound (n + 1) es) (closing x (n + 1 + length es))

-- what stays below a height stays below a lower one
pub below_less : (ps qs : List Entry) (h i : ℕ) → below ps h ≡ below qs h → i ≤ h → below ps i ≡ below qs i
below_less ps qs h i e l = sym (take-take i h ps l) ∙ ap (take i) e ∙ take-take i h qs l

-- an entry that stands below a height
entry_kept : (ps qs : List Entry) (h i : ℕ) → below ps h ≡ below qs h → i < h → entry ps i ≡ entry qs i
entry_kept ps qs h i e l = sym (get_or-take h ps i no_entry l) ∙ ap (λ (xs : List Entry). entry xs i) e ∙ get_or-take h qs i no_entry l

pub entries_kept : (ps qs : List Entry) (h : ℕ) → below ps h ≡ below qs h → (i n : ℕ) → i + n ≤ h → entries ps i n ≡ entries qs i n
unfolding entries
entries_kept ps qs h e i zero l = refl
entries_kept ps qs h e i (suc n) l = ap₂ ◌∷◌ (entry_kept ps qs h i e (omega arith)) (entries_kept ps qs h e (i + 1) n (omega arith))

-- one entry more above
pub entries_more : (ps : List Entry) (h n : ℕ) → entries ps h (suc n) ≡ entries ps h n ++ (entry ps (h + n) ∷ [])
unfolding entries
entries_more ps h zero = ap (λ (i : ℕ). entry ps i ∷ []) (omega arith)
entries_more ps h (suc n) =
    ap (λ (es : List Entry). entry ps h ∷ es) (entries_more ps (h + 1) n ∙ ap (λ (i : ℕ). entries ps (h + 1) n ++ (entry ps i ∷ [])) (omega arith))

-- the record of AX and of AG, and that of the others
pub closing_one : (kind : Kind) (a n : ℕ) → has_one kind ≡ true → closing (record { kind = kind; a = a }) n ≡ number kind ∷ (n - 1) ∷ 0 ∷ 0 ∷ []
unfolding closing
closing_one kind a n e = rw e

pub closing_two : (kind : Kind) (a n : ℕ) → has_one kind ≡ false → closing (record { kind = kind; a = a }) n ≡ number kind ∷ a ∷ (n - 1) ∷ 0 ∷ []
unfolding closing
closing_two kind a n e = rw e
