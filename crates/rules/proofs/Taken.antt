-- Parts that were read: a part that was begun, read to its end; and two parts joined.
use mathlib.Core.Path.{◌≡◌, refl, sym, ap, ap₂, ◌∙◌}
use mathlib.Core.Bool.{Bool, true, false, not, true≢false}
use mathlib.Core.List.{List, ◌++◌, append_assoc}
use Prim.Native.Nat.{ℕ, ◌+◌, ◌-◌, ◌*◌, ◌≤◌}
use native.Mathlib.Omega.{arith}
use lib.ListN.{length, take, drop}
use lib.Seq.{take-take, take_at, length-take-le}
use Rattle.layout.specs.Sizes.{most_formulas}
use Rattle.typed.specs.Grammar.{Typed, Rank, closest, conjunction, disjunction, implication}
use Rattle.typed.specs.Parses.{part, Parses, Ended, no_more_and, no_more_or}
use Rattle.typed.specs.Records.{pushed, formula_for, size, records, forms_to}
use Rattle.typed.proofs.Unique.{joined, complete}
use Rattle.rules.specs.declared.parts.Grade.{Grade}
use Rattle.rules.specs.declared.parts.Grade.TheVariants.{Plain, Refused}
use Rattle.rules.specs.declared.parts.Part.{Part}
use Rattle.rules.specs.declared.records.Entry.{Entry}
use Rattle.rules.specs.Making.{record_room, front, turned_from, Unwound, entries, unwound}
use Rattle.rules.specs.declared.records.Store.{Store}
use Rattle.rules.specs.Stores.{Negates, Unwinds}
use Rattle.rules.specs.Grades.{worse, grade, prefixed}
use Rattle.rules.specs.Reading.{Takes, Read, Begun}
use Rattle.rules.proofs.Pile.{entries_kept, below_less}
use Rattle.rules.proofs.Graded.{left_right, right_right, prefixed_right, under_right, untimed}
use Rattle.rules.proofs.Turned.{turned_front}

-- a part that was read, from its first token to its last
pub parsed : {text : List ℕ} {r : Rank} {room at height count : ℕ} {rs : List ℕ} {ps : List Entry} {p : Part} {rs' : List ℕ} {ps' : List Entry} → (t : Takes text r room at height count rs ps p rs' ps')
    → Ended r (drop p.next text) → Parses (part r) room (drop at text) t.tree (drop p.next text)
parsed {r = closest} t e = complete t.reads t.spelled
parsed {text} {r = conjunction} {p = p} t e = complete t.reads t.spelled t.tree (drop p.next text) (no_more_and e)
parsed {text} {r = disjunction} {p = p} t e = complete t.reads t.spelled e.0 t.tree (drop p.next text) (no_more_or e.1)
parsed {r = implication} t e = complete t.reads t.spelled e

-- ---- negated in place
-- the records from number n up to m were negated where the negations are odd in number
pub record Turned (odd : Bool) (n m : ℕ) (rs rs' : List ℕ) : Type 0 where
  pub stays : odd ≡ false → rs' ≡ rs
  pub turns : odd ≡ true → m ≤ most_formulas → rs' ≡ turned_from rs n (m - n)

-- as the code does it
pub record NegatedIf (odd : Bool) (n : ℕ) (s s' : Store) : Type 0 where
  pub turned : Turned odd n s.count s.records s'.records
  pub counted : s'.count ≡ s.count
  pub pending : s'.pending ≡ s.pending
  pub height : s'.height ≡ s.height

pub negated_so : {odd : Bool} {n : ℕ} {s s' : Store} → odd ≡ true → Negates n s s' → NegatedIf odd n s s'
negated_so o x =
    record {
      turned = record { stays = λ e. absurd (true≢false (sym o ∙ e)); turns = λ e. x.turned };
      counted = x.counted;
      pending = x.pending;
      height = x.height;
    }

pub negated_not : {odd : Bool} {n : ℕ} {s : Store} → odd ≡ false → NegatedIf odd n s s
negated_not o =
    record {
      turned = record { stays = λ e. refl; turns = λ e. absurd (true≢false (sym e ∙ o)) };
      counted = refl;
      pending = refl;
      height = refl;
    }

-- what stands in front of a part's records stays
front_kept : (rs rs₀ xs : List ℕ) (n m : ℕ) → length rs₀ ≡ record_room → n ≤ m → m ≤ most_formulas → front rs m ≡ front rs₀ n ++ xs → front rs n ≡ front rs₀ n
front_kept rs rs₀ xs n m long l room e =
    let k : 4 * n ≤ 4 * m = omega arith in
    let w : length (front rs₀ n) ≡ 4 * n = length-take-le (4 * n) rs₀ (omega arith) in
    sym (take-take (4 * n) (4 * m) rs k) ∙ ap (take (4 * n)) e ∙ take_at (front rs₀ n) xs (4 * n) w

-- so they are those of the negation of a plain part
pub turned_over : (n m : ℕ) (rs₀ rs rs' : List ℕ) (f : Typed) → length rs₀ ≡ record_room → length rs ≡ record_room → m ≡ n + size (formula_for f) → m ≤ most_formulas → grade f ≡ Plain
    → front rs m ≡ front rs₀ n ++ forms_to (records n (formula_for f)) → rs' ≡ turned_from rs n (m - n) → front rs' m ≡ front rs₀ n ++ forms_to (records n (pushed false f))
turned_over n m rs₀ rs rs' f long₀ long e room plain made turned =
    let a = formula_for f in
    let k : m - n ≡ size a = omega arith in
    let kept = front_kept rs rs₀ (forms_to (records n a)) n m long₀ (omega arith) room made in
    ap₂ (λ (xs : List ℕ) (j : ℕ). front xs j) (turned ∙ ap (turned_from rs n) k) e
    ∙ turned_front rs (front rs₀ n) n f long (omega arith) (untimed f plain) (sym kept) (ap (front rs) (sym e) ∙ made)

-- the records of a part behind its prefixes
behind_all : (odd nots : Bool) (n m : ℕ) (rs₀ rs rs' : List ℕ) (f : Typed) → (nots ≡ false → odd ≡ false) → length rs₀ ≡ record_room → length rs ≡ record_room
    → m ≡ n + size (formula_for f) → m ≤ most_formulas → (prefixed nots (grade f) ≡ Refused → ⊥) → front rs m ≡ front rs₀ n ++ forms_to (records n (formula_for f)) → Turned odd n m rs rs'
    → front rs' m ≡ front rs₀ n ++ forms_to (records n (pushed (not odd) f))
behind_all false nots n m rs₀ rs rs' f pair long₀ long e room right made t = ap (λ (xs : List ℕ). front xs m) (t.stays refl) ∙ made
behind_all true true n m rs₀ rs rs' f pair long₀ long e room right made t =
    turned_over n m rs₀ rs rs' f long₀ long e room (under_right (grade f) right) made (t.turns refl room)
behind_all true false n m rs₀ rs rs' f pair long₀ long e room right made t = absurd (true≢false (pair refl))

-- ---- a part that was begun is read to its end
module _ {text : List ℕ} {r : Rank} {room from height count : ℕ} {rs : List ℕ} {ps : List Entry} {at h n : ℕ} {g : Grade} {nots odd : Bool} {rs' : List ℕ} {ps' : List Entry}
    (b : Begun text r room from height count rs ps at h n g nots odd rs' ps') {p : Part} {rs₁ : List ℕ} {ps₁ : List Entry} (t : Takes text r room at h n rs' ps' p rs₁ ps₁)
    (long' : length rs' ≡ record_room) (long₁ : length rs₁ ≡ record_room) where
  -- its records: those made on the way, those of what was read, and those of its entries
  finished_made : (rs₂ : List ℕ) → Turned odd n p.count rs₁ rs₂ → {total : ℕ} {rs₃ : List ℕ} → Unwound rs₂ ps₁ height h p.count total rs₃
      → (worse g (prefixed nots p.grade) ≡ Refused → ⊥) → total + height ≤ most_formulas → front rs₃ total ≡ front rs count ++ forms_to (records count (formula_for (b.plug t.tree)))
  finished_made rs₂ d {total} {rs₃} u right few =
      let f = t.tree in
      let a = formula_for f in
      let c = t.counted in
      let k = u.counted in
      let up = b.above in
      let fits : p.count + h ≤ most_formulas = omega arith in
      let graded = t.graded in
      let right_f : prefixed nots (grade f) ≡ Refused → ⊥ = λ z. right_right g (prefixed nots p.grade) right (ap (prefixed nots) graded ∙ z) in
      let right_p : p.grade ≡ Refused → ⊥ = prefixed_right nots p.grade (right_right g (prefixed nots p.grade) right) in
      let right_whole : grade (b.plug f) ≡ Refused → ⊥ = λ z. right (ap (λ (x : Grade). worse g (prefixed nots x)) graded ∙ sym (b.graded f) ∙ z) in
      let pile = entries_kept ps₁ ps' h t.kept height (h - height) (omega arith) in
      let part_made = behind_all odd nots n p.count rs' rs₁ rs₂ f b.paired long' long₁ c (omega arith) right_f (t.made right_p fits) d in
      u.made fits
      ∙ ap₂ ◌++◌ (part_made ∙ ap (λ (xs : List ℕ). xs ++ forms_to (records n (pushed (not odd) f))) (b.fronted (left_right g (prefixed nots p.grade) right) (omega arith)))
      (ap₂ (λ (i : ℕ) (es : _). unwound i es) c pile)
      ∙ regrouped (front rs count) b.bytes (forms_to (records n (pushed (not odd) f))) (unwound (n + size a) (entries ps' height (h - height)))
      ∙ ap (λ (xs : List ℕ). front rs count ++ xs) (sym (b.made f right_whole (omega arith)))
    where
      regrouped : (a b c d : List ℕ) → ((a ++ b) ++ c) ++ d ≡ a ++ (b ++ (c ++ d))
      regrouped a b c d = simp append_assoc

  pub finished : (rs₂ : List ℕ) → Turned odd n p.count rs₁ rs₂ → {total : ℕ} {rs₃ : List ℕ} → Unwound rs₂ ps₁ height h p.count total rs₃ → (k : Grade) → k ≡ worse g (prefixed nots p.grade)
      → Takes text r room from height count rs ps (record { next = p.next; count = total; grade = k }) rs₃ ps₁
  finished rs₂ d {total} {rs₃} u k e =
      let f = t.tree in
      let i = b.counted f in
      let j = t.counted in
      let l = u.counted in
      let up = b.above in
      record {
        tree = b.plug f;
        tokens = b.tokens ++ t.tokens;
        spelled = joined b.spelled t.spelled;
        reads = b.reads t.tokens f t.reads;
        ahead = omega (arith, b.onward, t.ahead);
        inside = t.inside;
        graded = e ∙ ap (λ (x : Grade). worse g (prefixed nots x)) t.graded ∙ sym (b.graded f);
        counted = omega arith;
        slim = omega (arith, t.slim, b.slim);
        made = λ right few. finished_made rs₂ d u (λ z. right (e ∙ z)) few;
        kept = below_less ps₁ ps' h height t.kept b.above ∙ b.kept;
      }

-- and so it was read, where its entries have their records
pub read_to_end : {text : List ℕ} {r : Rank} {room from at : ℕ} {s s' : Store} {g : Grade} {nots odd : Bool} {p : Part} {s₁ s₂ s₃ : Store} {k : Grade}
    → Begun text r room from s.height s.count s.records s.pending at s'.height s'.count g nots odd s'.records s'.pending → Read text r room at s' p s₁ → Ended r (drop p.next text)
    → NegatedIf odd s'.count s₁ s₂ → Unwinds s.height s₂ s₃ → k ≡ worse g (prefixed nots p.grade) → Read text r room from s (record { next = p.next; count = s₃.count; grade = k }) s₃
read_to_end {s' = s'} {s₁ = s₁} {s₂} {k = k} b x e n u i =
    record {
      takes =
          rw (u.pending ∙ n.pending)
          (finished b x.takes s'.all_records s₁.all_records s₂.records (rw x.count at n.turned) (rw (n.pending, n.height ∙ x.height, n.counted ∙ x.count) at u.unwound) k i);
      ends = e;
      count = refl;
      height = u.height;
    }
