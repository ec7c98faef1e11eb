-- The lines of a text, one after the other: those before a place are read, and a reading of the text goes on from there.
use mathlib.Core.Path.{◌≡◌, refl, sym, ap, ap₂, subst, ◌∙◌}
use mathlib.Core.List.{List, [], ◌∷◌, ◌++◌, append_assoc, append-nil, flatten}
use Prim.Native.Nat.{ℕ, ◌+◌, ◌-◌, ◌*◌, ◌%◌, ◌≤◌, ◌<◌}
use native.Mathlib.Nat.{mod-eq_of_lt}
use native.Mathlib.Omega.{arith}
use lib.ListN.{length, drop, length-append, length-drop}
use lib.Seq.{drop-length}
use Rattle.model.specs.Actl.{Actl}
use Rattle.tokens.specs.declared.Token.{Token}
use Rattle.tokens.specs.declared.Token.TheVariants.{Line}
use Rattle.tokens.specs.Tokens.{scanned}
use Rattle.typed.specs.Grammar.{Typed, implication, Reads, Spells, Lines, most_depth}
use Rattle.typed.specs.Parses.{part, Parses, Ends, Ended}
use Rattle.typed.specs.Records.{formula_for, size, sizes, records, all_records, rules_from, forms_to, last}
use Rattle.typed.proofs.Sizes.{size_pos, forms_to_append}
use Rattle.typed.proofs.Unique.{same, line_parses}
use Rattle.rules.specs.declared.parts.Grade.{Grade}
use Rattle.rules.specs.declared.parts.Grade.TheVariants.{Plain, Refused}
use Rattle.rules.specs.declared.parts.Part.{Part}
use Rattle.rules.specs.Grades.{worse, grades}
use Rattle.rules.specs.Reading.{Takes, Nothing, Stands}
use Rattle.rules.specs.Rules.{formulas_for}
use Rattle.rules.specs.Lining.{Ruled, Holds, ReadAs}
use Rattle.rules.proofs.Graded.{left_right, right_right}
use Rattle.rules.proofs.Taken.{parsed}
use Rattle.rules.proofs.Lists.{sizes_more, records_more, rules_more, formulas_more, grades_more}
use Rattle.rules.specs.declared.records.Entry.{Entry}

pub record Lined (text : List ℕ) (at n count : ℕ) (g : Grade) (rs us : List ℕ) : Type 0 where
  pub rules : List Typed
  pub whole : (gs : List Typed) → Lines (drop at text) gs → Lines text (rules ++ gs)
  pub only : (gs : List Typed) → Lines text gs → (hs : List Typed) × Lines (drop at text) hs
  pub inside : at ≤ length text
  pub slim : count ≤ 2 * at
  pub few : n ≤ at
  pub holds : Holds rules (record { rules = n; count = count; grade = g }) rs us

-- nothing is read
pub lined_first : (text rs us : List ℕ) → Lined text 0 0 0 Plain rs us
unfolding grades forms_to flatten all_records rules_from sizes
lined_first text rs us =
    record {
      rules = [];
      whole = λ gs l. l;
      only = λ gs l. (gs, l);
      inside = omega arith;
      slim = omega arith;
      few = omega arith;
      holds = record { ruled = refl; counted = refl; graded = refl; made = λ i m. refl; numbered = λ i m. refl };
    }

-- ---- the first line of what is left
pub record FirstLine (s : List ℕ) : Type 0 where
  pub rule : Typed
  pub others : List Typed
  pub tokens : List Token
  pub left : List ℕ
  pub spelled : Spells s tokens left
  pub reads : Reads implication most_depth tokens rule
  pub ends : (scanned left).token ≡ Line
  pub more : Lines (scanned left).rest others

first_line : {s : List ℕ} {hs : List Typed} → 0 < length s → Lines s hs → FirstLine s
first_line l Lines.none = absurd (omega arith)
first_line l (Lines.line {s' = s'} {ts = ts} {f = f} {fs = fs} sp r e m) = record { rule = f; others = fs; tokens = ts; left = s'; spelled = sp; reads = r; ends = e; more = m }

module _ {text : List ℕ} {at n count : ℕ} {g : Grade} {rs us : List ℕ} (h : Lined text at n count g rs us) (l : at < length text) where
  left_over : 0 < length (drop at text)
  left_over = omega (arith, length-drop at text)

  -- the next line of a reading
  next_line : (gs : List Typed) → Lines text gs → FirstLine (drop at text)
  next_line gs x = first_line left_over (h.only gs x).1

  line_of : (x : FirstLine (drop at text)) → Parses (part implication) most_depth (drop at text) x.rule x.left
  line_of x = line_parses x.spelled x.reads x.ends

  -- no rule stands here, so the text is none of the grammar
  pub lined_wrong : Nothing implication most_depth (drop at text) → (gs : List Typed) → Lines text gs → ⊥
  lined_wrong none gs x = let y = next_line gs x in none y.rule y.left (line_of y)

  module _ {ps : List Entry} {p : Part} {rs₁ : List ℕ} {ps₁ : List Entry} (t : Takes text implication most_depth at 0 count rs ps p rs₁ ps₁) (e : Ended implication (drop p.next text)) where
    -- the line of a reading ends where the rule was read to
    same_line : (x : FirstLine (drop at text)) → x.left ≡ drop p.next text
    same_line x = (same (line_of x) (parsed t e)).1

    -- its end isn't the line's
    pub lined_broken : Ends Line (drop p.next text) → (gs : List Typed) → Lines text gs → ⊥
    lined_broken n gs x =
        let y = next_line gs x in
        n (ap (λ (s : List ℕ). (scanned s).token) (sym (same_line y)) ∙ y.ends)

    -- one line more
    pub lined_more : {next : ℕ} {us' : List ℕ} {k : Grade} → Stands text p.next Line next → Ruled us n ((p.count - 1) % 256) us' → k ≡ worse g p.grade
        → Lined text next (n + 1) p.count k rs₁ us'
    lined_more {next} {us'} {k} w ruled graded =
        let fs = h.rules in
        let f = t.tree in
        let a = formula_for f in
        let old = h.holds in
        let c = t.counted in
        let formulas = formulas_more fs f in
        let size_of : sizes (formulas_for (fs ++ (f ∷ []))) ≡ sizes (formulas_for fs) + size a = ap sizes formulas ∙ sizes_more (formulas_for fs) a in
        let pos = size_pos a in
        record {
          rules = fs ++ (f ∷ []);
          whole =
              λ gs x.
              subst (λ (ks : List Typed). Lines text ks) (sym (append_assoc fs (f ∷ []) gs))
              (h.whole (f ∷ gs) (Lines.line t.spelled t.reads w.token (subst (λ (s : List ℕ). Lines s gs) (sym w.left) x)));
          only =
              λ gs x.
              let y = next_line gs x in
              (y.others, subst (λ (s : List ℕ). Lines s y.others) (ap (λ (s : List ℕ). (scanned s).rest) (same_line y) ∙ w.left) y.more);
          inside = w.inside;
          slim = omega (arith, t.slim, h.slim, w.ahead);
          few = omega (arith, h.few, t.ahead, w.ahead);
          holds =
              record {
                ruled = omega (arith, old.ruled, length-append fs (f ∷ []));
                counted = c ∙ ap (λ (m : ℕ). m + size a) old.counted ∙ sym size_of;
                graded = graded ∙ ap₂ worse old.graded t.graded ∙ sym (grades_more fs f);
                made =
                    λ right few.
                    let right_w : worse g p.grade ≡ Refused → ⊥ = λ z. right (graded ∙ z) in
                    t.made (right_right g p.grade right_w) (omega arith)
                    ∙ ap₂ (λ (xs : List ℕ) (m : ℕ). xs ++ forms_to (records m a)) (old.made (left_right g p.grade right_w) (omega arith)) old.counted
                    ∙ sym
                    (ap (λ (as' : List Actl). forms_to (all_records 0 as')) formulas ∙ ap forms_to (records_more 0 (formulas_for fs) a)
                    ∙ forms_to_append (all_records 0 (formulas_for fs)) (records (0 + sizes (formulas_for fs)) a)
                    ∙ ap (λ (m : ℕ). forms_to (all_records 0 (formulas_for fs)) ++ forms_to (records m a)) (omega arith));
                numbered =
                    λ few rules_few.
                    let small : (p.count - 1) % 256 ≡ last (0 + sizes (formulas_for fs)) a = mod-eq_of_lt (omega arith) ∙ omega (arith, old.counted) in
                    ruled (omega arith) ∙ ap₂ (λ (xs : List ℕ) (m : ℕ). xs ++ (m ∷ [])) (old.numbered (omega arith) (omega arith)) small
                    ∙ sym (ap (rules_from 0) formulas ∙ rules_more 0 (formulas_for fs) a);
              };
        }

-- all lines are read
pub lined_all : {text : List ℕ} {at n count : ℕ} {g : Grade} {rs us : List ℕ} → Lined text at n count g rs us → length text ≤ at → ReadAs text (record { rules = n; count = count; grade = g }) rs us
lined_all {text} {at} h l =
    let i = h.inside in
    let e : at ≡ length text = omega arith in
    record {
      rules = h.rules;
      lines =
          subst (λ (fs : List Typed). Lines text fs) (append-nil h.rules) (h.whole [] (subst (λ (s : List ℕ). Lines s []) (sym (ap (λ (k : ℕ). drop k text) e ∙ drop-length text)) Lines.none));
      holds = h.holds;
    }
