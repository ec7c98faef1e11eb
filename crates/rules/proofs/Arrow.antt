-- The left of an arrow: one part more of an implication that is begun.
use mathlib.Core.Path.{◌≡◌, refl, sym, ap, ap₂, subst, ◌∙◌}
use mathlib.Core.Bool.{false}
use mathlib.Core.List.{List, [], ◌∷◌, ◌++◌, append_assoc, flatten}
use Prim.Native.Nat.{ℕ, ◌+◌, ◌-◌, ◌%◌, ◌≤◌}
use native.Mathlib.Nat.{mod-eq_of_lt}
use native.Mathlib.Omega.{arith}
use lib.ListN.{length, drop}
use Rattle.layout.specs.Sizes.{most_formulas}
use Rattle.model.specs.Actl.{Actl}
use Rattle.model.specs.Formulas.{disj}
use Rattle.tokens.specs.declared.Token.{Token}
use Rattle.tokens.specs.declared.Token.TheVariants.{Implies}
use Rattle.tokens.specs.Tokens.{scanned}
use Rattle.typed.specs.Grammar.{Typed, implies, disjunction, implication, Reads, by_arrow, as_implication}
use Rattle.typed.specs.Parses.{part, Parses, Ended, no_arrow, an_arrow}
use Rattle.typed.specs.Records.{pushed, formula_for, size, records, form_to, forms_to, last}
use Rattle.typed.proofs.Sizes.{forms_to_append, size_pos}
use Rattle.typed.proofs.Unique.{joined, same}
use Rattle.rules.specs.declared.parts.Grade.{Grade}
use Rattle.rules.specs.declared.parts.Grade.TheVariants.{Refused}
use Rattle.rules.specs.declared.parts.Part.{Part}
use Rattle.rules.specs.declared.records.Kind.TheVariants as kind
use Rattle.rules.specs.declared.records.Store.{Store}
use Rattle.rules.specs.Stores.{Negates, Pushes}
use Rattle.rules.specs.declared.records.Entry.{Entry}
use Rattle.rules.specs.Making.{record_room, front, turned_from, entries, entry, closing, unwound, Pushed}
use Rattle.rules.specs.Grades.{worse, under, grade}
use Rattle.rules.specs.Reading.{Takes, Read, Begun, Stands}
use Rattle.rules.proofs.Pile.{below_less}
use Rattle.rules.proofs.Graded.{worse_worse, worse_refused, left_right, right_right, under_right}
use Rattle.rules.proofs.Turned.{size_pushed}
use Rattle.rules.proofs.Places.{spelled_on}
use Rattle.rules.proofs.Begun.{on_top}
use Rattle.rules.proofs.Taken.{parsed, turned_over}

-- the records of an or, whose left operand's are made already
or_made : (n : ℕ) (a b : Actl) → forms_to (records n (Rattle.model.specs.Actl.either a b))
    ≡ forms_to (records n a) ++ (forms_to (records (n + size a) b) ++ closing (record { kind = kind.Or; a = n + size a - 1 }) (n + size a + size b))
unfolding records forms_to form_to closing flatten
or_made n a b =
    forms_to_append (records n a) (records (n + size a) b ++ (disj (last n a) (last (n + size a) b) ∷ []))
    ∙ ap (λ (xs : List ℕ). forms_to (records n a) ++ xs) (forms_to_append (records (n + size a) b) (disj (last n a) (last (n + size a) b) ∷ []))

-- an implication goes on behind its arrow
behind_arrow : {d : ℕ} {s s₁ s' : List ℕ} {f e : Typed} → Parses (part disjunction) d s f s₁ → (scanned s₁).token ≡ Implies → Parses (part implication) d s e s'
    → (g : Typed) × Parses (part implication) d (scanned s₁).rest g s'
behind_arrow x w (no_arrow y n) = absurd (n (ap (λ (s : List ℕ). (scanned s).token) (same y x).1 ∙ w))
behind_arrow {d} {s₁ = s₁} {s'} x w (an_arrow {g = g} y v z) = (g, subst (λ (s : List ℕ). Parses (part implication) d (scanned s).rest g s') (same y x).1 z)

module _ {text : List ℕ} {room from height count : ℕ} {rs : List ℕ} {ps : List Entry} {at h n : ℕ} {g : Grade} {rs' : List ℕ} {ps' : List Entry}
    (b : Begun text implication room from height count rs ps at h n g false false rs' ps') {p : Part} {rs₁ : List ℕ} {ps₁ : List Entry} (t : Takes text disjunction room at h n rs' ps' p rs₁ ps₁)
    (long' : length rs' ≡ record_room) (long₁ : length rs₁ ≡ record_room) where
  -- the records of the whole, where those of the left part are made
  arrow_made : (ps₂ : List Entry) → Pushed ps₁ h (record { kind = kind.Or; a = (p.count - 1) % 256 }) ps₂ → (f : Typed) → (grade (b.plug (implies t.tree f)) ≡ Refused → ⊥)
      → p.count + size (formula_for f) + (h + 1) ≤ most_formulas
      → forms_to (records count (formula_for (b.plug (implies t.tree f))))
      ≡ (b.bytes ++ forms_to (records n (pushed false t.tree))) ++ (forms_to (records p.count (formula_for f)) ++ unwound (p.count + size (formula_for f)) (entries ps₂ height (h + 1 - height)))
  unfolding pushed size
  arrow_made ps₂ pushed₂ f right few =
      let a = pushed false t.tree in
      let o = formula_for f in
      let c = t.counted in
      let s = size_pushed false t.tree in
      let e : n + size a ≡ p.count = omega arith in
      let i : n + (size a + size o + 1) ≡ p.count + size o + 1 = omega arith in
      let pos = size_pos o in
      let small : (p.count - 1) % 256 ≡ p.count - 1 = mod-eq_of_lt (omega arith) in
      let top : entry ps₂ h ≡ record { kind = kind.Or; a = p.count - 1 } = pushed₂.pushed (omega arith) ∙ ap (λ (x : ℕ). record { kind = kind.Or; a = x }) small in
      let kept = pushed₂.kept ∙ t.kept in
      b.made (implies t.tree f) right (omega arith)
      ∙ ap₂ (λ (xs ys : List ℕ). b.bytes ++ (xs ++ ys))
      (or_made n a o
      ∙ ap (λ (k : ℕ). forms_to (records n a) ++ (forms_to (records k o) ++ closing (record { kind = kind.Or; a = k - 1 }) (k + size o))) e)
      (ap (λ (k : ℕ). unwound k (entries ps' height (h - height))) i)
      ∙ on_top b.bytes (forms_to (records n a)) (forms_to (records p.count o)) ps' ps₂ height h (p.count + size o) (record { kind = kind.Or; a = p.count - 1 }) kept top b.above

  pub with_arrow : {next : ℕ} {rs₂ : List ℕ} {ps₂ : List Entry} → Ended disjunction (drop p.next text) → Stands text p.next Implies next → (p.count ≤ most_formulas → rs₂ ≡ turned_from rs₁ n (p.count - n))
      → Pushed ps₁ h (record { kind = kind.Or; a = (p.count - 1) % 256 }) ps₂ → Begun text implication room from height count rs ps next (h + 1) p.count (worse g (under p.grade)) false false rs₂ ps₂
  unfolding grade pushed size
  with_arrow {next} {rs₂} {ps₂} ends w turned pushed₂ =
      let f = t.tree in
      let c = t.counted in
      let s = size_pushed false f in
      record {
        plug = λ o. b.plug (implies f o);
        tokens = b.tokens ++ (t.tokens ++ (Implies ∷ []));
        bytes = b.bytes ++ forms_to (records n (pushed false f));
        onward = omega (arith, b.onward, t.ahead, w.ahead);
        inside = w.inside;
        above = omega (arith, b.above);
        spelled = joined b.spelled (spelled_on t.spelled w);
        reads =
            λ ts o x.
            subst (λ (us : List Token). Reads implication room us (b.plug (implies f o))) (sym (regrouped b.tokens t.tokens ts))
            (b.reads (t.tokens ++ (Implies ∷ ts)) (implies f o) (by_arrow t.reads x));
        only =
            λ o q x.
            let v = behind_arrow (parsed t ends) w.token (b.only o q x).1 in
            (v.0, subst (λ (l : List ℕ). Parses (part implication) room l v.0 q) w.left v.1);
        graded =
            λ o.
            b.graded (implies f o) ∙ sym (worse_worse g (under (grade f)) (grade o)) ∙ ap (λ (k : Grade). worse (worse g (under k)) (grade o)) (sym t.graded);
        counted = λ o. b.counted (implies f o) ∙ omega arith;
        slim = omega (arith, b.slim, t.slim, w.ahead);
        paired = λ e. refl;
        fronted =
            λ right few.
            let plain = under_right p.grade (right_right g (under p.grade) right) in
            let right_p : p.grade ≡ Refused → ⊥ = λ z. right (ap (λ (k : Grade). worse g (under k)) z ∙ worse_refused g) in
            turned_over n p.count rs' rs₁ rs₂ f long' long₁ c (omega arith) (sym t.graded ∙ plain) (t.made right_p (omega arith)) (turned (omega arith))
            ∙ ap (λ (xs : List ℕ). xs ++ forms_to (records n (pushed false f))) (b.fronted (left_right g (under p.grade) right) (omega arith))
            ∙ append_assoc (front rs count) b.bytes (forms_to (records n (pushed false f)));
        made = λ o right few. arrow_made ps₂ pushed₂ o right few;
        kept = below_less ps₂ ps₁ h height pushed₂.kept b.above ∙ below_less ps₁ ps' h height t.kept b.above ∙ b.kept;
      }
    where
      regrouped : (a b c : List Token) → (a ++ (b ++ (Implies ∷ []))) ++ c ≡ a ++ (b ++ (Implies ∷ c))
      regrouped a b c = append_assoc a (b ++ (Implies ∷ [])) c ∙ ap (λ (xs : List Token). a ++ xs) (append_assoc b (Implies ∷ []) c)

-- as the code reads it
pub arrow_begun : {text : List ℕ} {room from at next height count : ℕ} {rs : List ℕ} {ps : List Entry} {s : Store} {g : Grade} {p : Part} {s₁ s₂ s₃ : Store} {k : Grade}
    → Begun text implication room from height count rs ps at s.height s.count g false false s.records s.pending → Read text disjunction room at s p s₁ → Stands text p.next Implies next → Negates s.count s₁ s₂
    → Pushes (record { kind = kind.Or; a = (p.count - 1) % 256 }) s₂ s₃ → k ≡ worse g (under p.grade) → Begun text implication room from height count rs ps next s₃.height s₃.count k false false s₃.records s₃.pending
arrow_begun {s = s} {s₁ = s₁} b x w n u e =
    let h = n.height ∙ x.height in
    rw (u.height, h, u.counted ∙ n.counted ∙ x.count, e, u.records)
    (with_arrow b x.takes s.all_records s₁.all_records x.ends w (rw x.count at n.turned) (rw (n.pending, h) at u.pushed))

-- an implication begins with a disjunction
pub first_of : {d : ℕ} {s s' : List ℕ} {f : Typed} → Parses (part implication) d s f s' → (g : Typed) × (s₁ : List ℕ) × Parses (part disjunction) d s g s₁
first_of {s' = s'} {f} (no_arrow x n) = (f, s', x)
first_of (an_arrow {s₁ = s₁} {f = f} x e y) = (f, s₁, x)

-- and may be no more
pub as_last : {text : List ℕ} {room at height count : ℕ} {rs : List ℕ} {ps : List Entry} {p : Part} {rs' : List ℕ} {ps' : List Entry} → Takes text disjunction room at height count rs ps p rs' ps'
    → Takes text implication room at height count rs ps p rs' ps'
as_last t =
    record {
      tree = t.tree;
      tokens = t.tokens;
      spelled = t.spelled;
      reads = as_implication t.reads;
      ahead = t.ahead;
      inside = t.inside;
      graded = t.graded;
      counted = t.counted;
      slim = t.slim;
      made = t.made;
      kept = t.kept;
    }
