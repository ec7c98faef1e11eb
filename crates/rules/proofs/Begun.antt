-- A part that is begun: nothing of it, and one prefix more.
use mathlib.Core.Path.{◌≡◌, refl, sym, ap, ap₂, subst, ◌∙◌}
use mathlib.Core.Bool.{Bool, true, false, not, true≢false}
use mathlib.Core.List.{List, [], ◌∷◌, ◌++◌, append_assoc, append-nil, flatten}
use Prim.Native.Nat.{ℕ, suc, ◌+◌, ◌-◌, ◌≤◌}
use native.Mathlib.Omega.{arith}
use lib.ListN.{length}
use Rattle.layout.specs.Sizes.{most_formulas}
use Rattle.tokens.specs.declared.Quantifier.{Quantifier}
use Rattle.tokens.specs.declared.Operator.{Operator}
use Rattle.tokens.specs.declared.Operator.TheVariants.{Next, Always, Eventually}
use Rattle.tokens.specs.declared.Token.{Token}
use Rattle.tokens.specs.declared.Token.TheVariants as token
use Rattle.model.specs.Actl.{Actl}
use Rattle.model.specs.Formulas.{ax, ag, au}
use Rattle.typed.specs.Grammar.{Typed, negated, along, Rank, closest, Reads, by_not, by_temporal}
use Rattle.typed.specs.Records.{at_steps, pushed, formula_for, size, records, forms_to, form_to}
use Rattle.typed.proofs.Sizes.{forms_to_append, size_pos}
use Rattle.rules.specs.declared.parts.Grade.{Grade}
use Rattle.rules.specs.declared.parts.Grade.TheVariants.{Plain}
use Rattle.rules.specs.declared.records.Entry.{Entry}
use Rattle.rules.specs.Making.{front, below, entry, entries, unwound, closing}
use Rattle.rules.specs.Grades.{worse, grade, asked_behind}
use Rattle.rules.specs.Reading.{Begun, Pended, trues, true_bytes, opening, Stands}
use Rattle.rules.proofs.Pile.{unwound_last, entries_kept, entries_more, below_less}
use Rattle.rules.proofs.Graded.{behind_prefixes, not_behind, none_before, left_right}
use Rattle.rules.proofs.Turned.{size_pushed}
use Rattle.rules.proofs.Places.{spelled_on, behind_token, behind_not, behind_temporal}

-- nothing of it is read
pub at_first : (text : List ℕ) (r : Rank) (room at height count : ℕ) (rs : List ℕ) (ps : List Entry) → at ≤ length text → Begun text r room at height count rs ps at height count Plain false false rs ps
unfolding entries unwound
at_first text r room at height count rs ps l =
    let z : height - height ≡ 0 = omega arith in
    record {
      plug = λ f. f;
      tokens = [];
      bytes = [];
      onward = omega arith;
      inside = l;
      above = omega arith;
      spelled = Rattle.typed.specs.Grammar.Spells.none;
      reads = λ ts f x. x;
      only = λ f s x. (f, x);
      graded = λ f. refl;
      counted = λ f. refl;
      slim = omega arith;
      paired = λ e. refl;
      fronted = λ i m. sym (append-nil (front rs count));
      made =
          λ f n m.
          sym
          (ap (λ (k : ℕ). forms_to (records count (formula_for f)) ++ unwound (count + size (formula_for f)) (entries ps height k)) z
          ∙ append-nil (forms_to (records count (formula_for f))));
      kept = refl;
    }

-- the records of a temporal formula: AF's TRUE, those of its operand, and the entry's
stepped : (o : Operator) (n : ℕ) (a : Actl) → forms_to (records n (at_steps o a)) ≡ true_bytes o ++ (forms_to (records (n + trues o) a) ++ closing (opening o n) (n + trues o + size a))
unfolding at_steps records size forms_to form_to closing flatten
stepped Next n a =
    forms_to_append (records n a) (ax (n + size a - 1) ∷ []) ∙ ap (λ (k : ℕ). forms_to (records k a) ++ (7 ∷ (k + size a - 1) ∷ 0 ∷ 0 ∷ [])) (omega arith)
stepped Always n a =
    forms_to_append (records n a) (ag (n + size a - 1) ∷ []) ∙ ap (λ (k : ℕ). forms_to (records k a) ++ (9 ∷ (k + size a - 1) ∷ 0 ∷ 0 ∷ [])) (omega arith)
stepped Eventually n a =
    ap (λ (bs : List ℕ). 1 ∷ 0 ∷ 0 ∷ 0 ∷ bs)
    (forms_to_append (records (n + 1) a) (au (n + 1 - 1) (n + 1 + size a - 1) ∷ [])
    ∙ ap (λ (k : ℕ). forms_to (records (n + 1) a) ++ (8 ∷ k ∷ (n + 1 + size a - 1) ∷ 0 ∷ [])) (omega arith))

size_stepped : (o : Operator) (a : Actl) → size (at_steps o a) ≡ trues o + size a + 1
unfolding at_steps size
size_stepped Next a = omega arith
size_stepped Always a = omega arith
size_stepped Eventually a = omega arith

few_trues : (o : Operator) → trues o ≤ 1
few_trues Next = omega arith
few_trues Always = omega arith
few_trues Eventually = omega arith

regrouped : (a b c d e : List ℕ) → a ++ ((b ++ (c ++ d)) ++ e) ≡ (a ++ b) ++ (c ++ (d ++ e))
regrouped a b c d e = simp append_assoc

-- the records of an entry that is pushed, between those of what it waits for and those of the entries below
pub on_top : (a b c : List ℕ) (ps qs : List Entry) (height h k : ℕ) (e : Entry) → below qs h ≡ below ps h → entry qs h ≡ e → height ≤ h
    → a ++ ((b ++ (c ++ closing e k)) ++ unwound (k + 1) (entries ps height (h - height))) ≡ (a ++ b) ++ (c ++ unwound k (entries qs height (h + 1 - height)))
on_top a b c ps qs height h k e kept top up =
    let es = entries ps height (h - height) in
    let i : height + (h - height) ≡ h = omega arith in
    let j : h + 1 - height ≡ suc (h - height) = omega arith in
    let pile : entries qs height (h + 1 - height) ≡ es ++ (e ∷ []) =
    ap (entries qs height) j ∙ entries_more qs height (h - height)
    ∙ ap₂ (λ (xs : List Entry) (x : Entry). xs ++ (x ∷ [])) (entries_kept qs ps h kept height (h - height) (omega arith)) (ap (entry qs) i ∙ top) in
    regrouped a b c (closing e k) (unwound (k + 1) es) ∙ ap (λ (xs : List ℕ). (a ++ b) ++ (c ++ xs)) (sym (ap (unwound k) pile ∙ unwound_last es k e))

module _ {text : List ℕ} {room from height count : ℕ} {rs : List ℕ} {ps : List Entry} {at h n : ℕ} {g : Grade} {nots odd : Bool} {rs' : List ℕ} {ps' : List Entry}
    (b : Begun text closest room from height count rs ps at h n g nots odd rs' ps') where
  -- a negation
  pub with_not : {next : ℕ} → Stands text at token.Not next → Begun text closest room from height count rs ps next h n g true (not odd) rs' ps'
  unfolding grade pushed
  with_not {next} w =
      record {
        plug = λ f. b.plug (negated f);
        tokens = b.tokens ++ (token.Not ∷ []);
        bytes = b.bytes;
        onward = omega (arith, b.onward, w.ahead);
        inside = w.inside;
        above = b.above;
        spelled = spelled_on b.spelled w;
        reads =
            λ ts f x.
            subst (λ (us : List Token). Reads closest room us (b.plug (negated f))) (sym (append_assoc b.tokens (token.Not ∷ []) ts))
            (b.reads (token.Not ∷ ts) (negated f) (by_not x));
        only = λ f s x. behind_not (behind_token w (b.only f s x).1);
        graded = λ f. b.graded (negated f) ∙ not_behind nots g (grade f);
        counted = λ f. b.counted (negated f) ∙ ap (λ (k : ℕ). n + k + h) (size_pushed false f);
        slim = omega (arith, b.slim, w.ahead);
        paired = λ e. absurd (true≢false e);
        fronted = b.fronted;
        made =
            λ f i m.
            b.made (negated f) i (subst (λ (k : ℕ). n + k + h ≤ most_formulas) (sym (size_pushed false f)) m)
            ∙ ap (λ (k : ℕ). b.bytes ++ (forms_to (records n (pushed (not (not odd)) f)) ++ unwound (n + k) (entries ps' height (h - height)))) (size_pushed false f);
        kept = b.kept;
      }

  -- the records of the part with a temporal operator more
  temporal_made : (q : Quantifier) (o : Operator) (ps'' : List Entry) → below ps'' h ≡ below ps' h → entry ps'' h ≡ opening o n → odd ≡ false → (f : Typed)
      → b.bytes ++ (forms_to (records n (pushed (not odd) (along q o f))) ++ unwound (n + size (formula_for (along q o f))) (entries ps' height (h - height)))
      ≡ (b.bytes ++ true_bytes o) ++ (forms_to (records (n + trues o) (pushed (not odd) f)) ++ unwound (n + trues o + size (formula_for f)) (entries ps'' height (h + 1 - height)))
  unfolding pushed
  temporal_made q o ps'' kept e even f =
      let a = formula_for f in
      let m = n + trues o in
      let es = entries ps' height (h - height) in
      let j : n + size (at_steps o a) ≡ m + size a + 1 = omega (arith, size_stepped o a) in
      ap (λ (k : Bool). b.bytes ++ (forms_to (records n (pushed (not k) (along q o f))) ++ unwound (n + size (at_steps o a)) es)) even
      ∙ ap₂ (λ (xs ys : List ℕ). b.bytes ++ (xs ++ ys)) (stepped o n a) (ap (λ (k : ℕ). unwound k es) j)
      ∙ on_top b.bytes (true_bytes o) (forms_to (records m a)) ps' ps'' height h (m + size a) (opening o n) kept e b.above
      ∙ ap (λ (k : Bool). (b.bytes ++ true_bytes o) ++ (forms_to (records m (pushed (not k) f)) ++ unwound (m + size a) (entries ps'' height (h + 1 - height)))) (sym even)

  -- a temporal operator
  pub with_temporal : {q : Quantifier} {o : Operator} {next : ℕ} {rs'' : List ℕ} {ps'' : List Entry} → Stands text at (token.Temporal q o) next → Pended o h n rs' ps' rs'' ps''
      → Begun text closest room from height count rs ps next (h + 1) (n + trues o) (worse g (asked_behind nots q)) nots odd rs'' ps''
  unfolding grade pushed
  with_temporal {q} {o} {next} {rs''} {ps''} w d =
      record {
        plug = λ f. b.plug (along q o f);
        tokens = b.tokens ++ (token.Temporal q o ∷ []);
        bytes = b.bytes ++ true_bytes o;
        onward = omega (arith, b.onward, w.ahead);
        inside = w.inside;
        above = omega (arith, b.above);
        spelled = spelled_on b.spelled w;
        reads =
            λ ts f x.
            subst (λ (us : List Token). Reads closest room us (b.plug (along q o f))) (sym (append_assoc b.tokens (token.Temporal q o ∷ []) ts))
            (b.reads (token.Temporal q o ∷ ts) (along q o f) (by_temporal x));
        only = λ f s x. behind_temporal (behind_token w (b.only f s x).1);
        graded = λ f. b.graded (along q o f) ∙ behind_prefixes nots g q (grade f);
        counted = λ f. b.counted (along q o f) ∙ ap (λ (k : ℕ). n + k + h) (size_stepped o (formula_for f)) ∙ omega arith;
        slim = omega (arith, b.slim, w.ahead, few_trues o);
        paired = b.paired;
        fronted =
            λ i m.
            d.made (omega arith) ∙ ap (λ (bs : List ℕ). bs ++ true_bytes o) (b.fronted (left_right g (asked_behind nots q) i) (omega arith)) ∙ append_assoc (front rs count) b.bytes (true_bytes o);
        made =
            λ f i m.
            let even = b.paired (none_before nots g q (grade f) (λ e. i (b.graded (along q o f) ∙ e))) in
            let l = size_stepped o (formula_for f) in
            let pos = size_pos (formula_for f) in
            b.made (along q o f) i (omega arith) ∙ temporal_made q o ps'' d.kept (d.pushed (omega arith) (omega arith)) even f;
        kept = below_less ps'' ps' h height d.kept b.above ∙ b.kept;
      }
