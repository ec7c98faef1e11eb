-- Two parts joined by a record, and chains of parts joined by & or by |.
use mathlib.Core.Path.{◌≡◌, refl, sym, ap, ap₂, subst, ◌∙◌}
use mathlib.Core.List.{List, [], ◌∷◌, ◌++◌, append_assoc, append-nil, flatten}
use Prim.Native.Nat.{ℕ, ◌+◌, ◌-◌, ◌%◌, ◌≤◌, ◌<◌}
use native.Mathlib.Nat.{mod-eq_of_lt}
use native.Mathlib.Omega.{arith}
use lib.ListN.{length, drop}
use Rattle.layout.specs.Sizes.{most_formulas}
use Rattle.model.specs.Actl.{Actl}
use Rattle.model.specs.Formulas.{Form, conj, disj, au}
use Rattle.tokens.specs.declared.Quantifier.{Quantifier}
use Rattle.tokens.specs.declared.Token.{Token}
use Rattle.tokens.specs.Tokens.{scanned}
use Rattle.typed.specs.Grammar.{Typed, until, Rank, Reads, as_conjunction, by_and, as_disjunction, by_or, Spells}
use Rattle.typed.specs.Parses.{Goal, part, Parses, Ends, Ended, a_conjunction, no_more_and, one_more_and, a_disjunction, no_more_or, one_more_or}
use Rattle.typed.specs.Records.{pushed, formula_for, size, records, form_to, forms_to, last}
use Rattle.typed.proofs.Sizes.{forms_to_append}
use Rattle.typed.proofs.Unique.{joined, same}
use Rattle.rules.specs.declared.parts.Grade.{Grade}
use Rattle.rules.specs.declared.parts.Grade.TheVariants.{Refused}
use Rattle.rules.specs.declared.parts.Part.{Part}
use Rattle.rules.specs.declared.records.Kind.{Kind}
use Rattle.rules.specs.declared.records.Kind.TheVariants as kind
use Rattle.rules.specs.declared.records.Store.{Store}
use Rattle.rules.specs.declared.records.Entry.{Entry}
use Rattle.rules.specs.Making.{number, front, Added}
use Rattle.rules.specs.Grades.{worse, grade}
use Rattle.rules.specs.Reading.{Takes, Read, Nothing, Stands}
use Rattle.rules.specs.Joins.{Joins}
use Rattle.rules.specs.declared.readers.Connective.{Connective}
use Rattle.rules.specs.declared.readers.Connective.TheVariants as connective
use Rattle.rules.specs.Chains.{sign, tree_of, whole, inner, more, kind_of}
use Rattle.rules.proofs.Graded.{left_right, right_right}
use Rattle.rules.proofs.Places.{spelled_on}
use Rattle.rules.proofs.Taken.{parsed}

-- ---- two parts and the record that joins them
-- a formula of two others, by the kind of its record
pub record Binary (kind : Kind) (c a b : Actl) : Type 0 where
  pub form : ℕ → ℕ → Form
  pub bytes : (x y : ℕ) → form_to (form x y) ≡ number kind ∷ x ∷ y ∷ 0 ∷ []
  pub sized : size c ≡ size a + size b + 1
  pub recorded : (n : ℕ) → records n c ≡ records n a ++ (records (n + size a) b ++ (form (last n a) (last (n + size a) b) ∷ []))

pub until_binary : (q : Quantifier) (f g : Typed) → Binary kind.Until (formula_for (until q f g)) (formula_for f) (formula_for g)
unfolding pushed records size form_to
until_binary q f g = record { form = au; bytes = λ x y. refl; sized = refl; recorded = λ n. refl }

pub tree_binary : (c : Connective) (f g : Typed) → Binary (kind_of c) (formula_for (tree_of c f g)) (formula_for f) (formula_for g)
unfolding pushed records size form_to
tree_binary connective.And f g = record { form = conj; bytes = λ x y. refl; sized = refl; recorded = λ n. refl }
tree_binary connective.Or f g = record { form = disj; bytes = λ x y. refl; sized = refl; recorded = λ n. refl }

-- a record by itself
alone : (f : Form) → forms_to (f ∷ []) ≡ form_to f
unfolding forms_to flatten
alone f = append-nil (form_to f)

-- its records: those of the two, and its own
binary_made : {kind : Kind} {c a b : Actl} → Binary kind c a b → (rs rs₁ rs₂ rs₃ : List ℕ) (n n₁ n₂ : ℕ) → n₁ ≡ n + size a → n₂ ≡ n₁ + size b → n₂ < most_formulas
    → front rs₁ n₁ ≡ front rs n ++ forms_to (records n a) → front rs₂ n₂ ≡ front rs₁ n₁ ++ forms_to (records n₁ b) → Added rs₂ n₂ (number kind ∷ (n₁ - 1) % 256 ∷ (n₂ - 1) % 256 ∷ 0 ∷ []) rs₃
    → front rs₃ (n₂ + 1) ≡ front rs n ++ forms_to (records n c)
binary_made {kind} {c} {a} {b} w rs rs₁ rs₂ rs₃ n n₁ n₂ e₁ e₂ few left right added =
    let own = w.form (last n a) (last (n + size a) b) in
    let i : (n₁ - 1) % 256 ≡ last n a = mod-eq_of_lt (omega arith) ∙ ap (λ (k : ℕ). k - 1) e₁ in
    let j : (n₂ - 1) % 256 ≡ last (n + size a) b = mod-eq_of_lt (omega arith) ∙ ap (λ (k : ℕ). k - 1) (e₂ ∙ ap (λ (k : ℕ). k + size b) e₁) in
    added few
    ∙ ap₂ ◌++◌ (right ∙ ap₂ (λ (xs : List ℕ) (k : ℕ). xs ++ forms_to (records k b)) left e₁) (ap₂ (λ (x y : ℕ). number kind ∷ x ∷ y ∷ 0 ∷ []) i j ∙ sym (w.bytes (last n a) (last (n + size a) b)))
    ∙ regrouped (front rs n) (forms_to (records n a)) (forms_to (records (n + size a) b)) (form_to own)
    ∙ ap (λ (xs : List ℕ). front rs n ++ xs)
    (sym
    (ap forms_to (w.recorded n) ∙ forms_to_append (records n a) (records (n + size a) b ++ (own ∷ []))
    ∙ ap (λ (xs : List ℕ). forms_to (records n a) ++ xs) (forms_to_append (records (n + size a) b) (own ∷ []) ∙ ap (λ (xs : List ℕ). forms_to (records (n + size a) b) ++ xs) (alone own))))
  where
    regrouped : (a b c d : List ℕ) → ((a ++ b) ++ c) ++ d ≡ a ++ (b ++ (c ++ d))
    regrouped a b c d = simp append_assoc

-- so they are where they were joined
pub record Joined (kind : Kind) (left right : Part) (rs : List ℕ) (p : Part) (rs' : List ℕ) : Type 0 where
  pub part : p ≡ record { next = right.next; count = right.count + 1; grade = worse left.grade right.grade }
  pub added : Added rs right.count (number kind ∷ (left.count - 1) % 256 ∷ (right.count - 1) % 256 ∷ 0 ∷ []) rs'

pub joined_by : {kind : Kind} {left right : Part} {s : Store} {p : Part} {s' : Store} → Joins kind left right s p s' → s.count ≡ right.count → Joined kind left right s.records p s'.records
joined_by x e = record { part = x.part; added = rw e at x.adds.added }

-- two parts that were read, one behind the other, are a part
pub pair_taken : {text : List ℕ} {r r₁ r₂ : Rank} {room room₁ from at₁ at₂ height count : ℕ} {kind : Kind} {rs : List ℕ} {ps : List Entry} {p : Part} {rs₁ : List ℕ} {ps₁ : List Entry} {q : Part} {rs₂ : List ℕ} {ps₂ : List Entry} {rs₃ : List ℕ}
    → (left : Takes text r₁ room₁ at₁ height count rs ps p rs₁ ps₁) → (right : Takes text r₂ room₁ at₂ height p.count rs₁ ps₁ q rs₂ ps₂)
    → {W : Typed} {ts : List Token} {next : ℕ} → Binary kind (formula_for W) (formula_for left.tree) (formula_for right.tree) → Spells (drop from text) ts (drop next text) → Reads r room ts W
    → from ≤ at₁ → p.next < at₂ → q.next ≤ next → next ≤ length text → {k : Grade} → k ≡ grade W → ((k ≡ Refused → ⊥) → (p.grade ≡ Refused → ⊥) × (q.grade ≡ Refused → ⊥))
    → Added rs₂ q.count (number kind ∷ (p.count - 1) % 256 ∷ (q.count - 1) % 256 ∷ 0 ∷ []) rs₃
    → Takes text r room from height count rs ps (record { next = next; count = q.count + 1; grade = k }) rs₃ ps₂
pair_taken {count = count} {rs = rs} {p = p} {rs₁} {q = q} {rs₂ = rs₂} {rs₃ = rs₃} left right {W = W} {ts} w sp reads l₁ l₂ l₃ l₄ e parts added =
    let i = left.counted in
    let j = right.counted in
    let z = w.sized in
    record {
      tree = W;
      tokens = ts;
      spelled = sp;
      reads = reads;
      ahead = omega (arith, left.ahead, right.ahead);
      inside = l₄;
      graded = e;
      counted = omega arith;
      slim = omega (arith, left.slim, right.slim);
      made =
          λ right_k few.
          let right_parts = parts right_k in
          binary_made w rs rs₁ rs₂ rs₃ count p.count q.count i j (omega arith) (left.made right_parts.0 (omega arith)) (right.made right_parts.1 (omega arith)) added;
      kept = right.kept ∙ left.kept;
    }

-- ---- chains
-- the place of their reader among those of the cycle
abbrev pub place : Connective → ℕ
place connective.And = 3
place connective.Or = 5

-- A chain was read, to a part's end. A reading of the whole goes on from here.
pub record Chained (c : Connective) (text : List ℕ) (room from height count : ℕ) (rs : List ℕ) (ps : List Entry) (p : Part) (rs' : List ℕ) (ps' : List Entry) : Type 0 where
  pub taken : Takes text (whole c) room from height count rs ps p rs' ps'
  pub only : (f : Typed) (s : List ℕ) → Parses (part (whole c)) room (drop from text) f s → Parses (more c taken.tree) room (drop p.next text) f s
  pub ended : Ended (inner c) (drop p.next text)

-- what is read alike is read on alike
on : {g h : Goal} {d : ℕ} {s r : List ℕ} {f : Typed} {s' : List ℕ} → g ≡ h → s ≡ r → Parses g d s f s' → Parses h d r f s'
on e k x = rw⁻¹ (e, k) x

first_only : (c : Connective) {d : ℕ} {s s₁ s' : List ℕ} {f g : Typed} → Parses (part (inner c)) d s f s₁ → Parses (part (whole c)) d s g s' → Parses (more c f) d s₁ g s'
first_only connective.And x (a_conjunction y m) = let w = same y x in on (ap (more connective.And) w.0) w.1 m
first_only connective.Or x (a_disjunction y m) = let w = same y x in on (ap (more connective.Or) w.0) w.1 m

next_only : (c : Connective) (e : Typed) {d : ℕ} {s s₁ s' : List ℕ} {f g : Typed} → (scanned s).token ≡ sign c → Parses (part (inner c)) d (scanned s).rest f s₁ → Parses (more c e) d s g s'
    → Parses (more c (tree_of c e f)) d s₁ g s'
next_only connective.And e w x (no_more_and n) = absurd (n w)
next_only connective.And e w x (one_more_and v y m) = let k = same y x in on (ap (λ (f : Typed). more connective.And (tree_of connective.And e f)) k.0) k.1 m
next_only connective.Or e w x (no_more_or n) = absurd (n w)
next_only connective.Or e w x (one_more_or v y m) = let k = same y x in on (ap (λ (f : Typed). more connective.Or (tree_of connective.Or e f)) k.0) k.1 m

next_part : (c : Connective) (e : Typed) {d : ℕ} {s s' : List ℕ} {g : Typed} → (scanned s).token ≡ sign c → Parses (more c e) d s g s' → (f : Typed) × (s₁ : List ℕ) × Parses (part (inner c)) d (scanned s).rest f s₁
next_part connective.And e w (no_more_and n) = absurd (n w)
next_part connective.And e w (one_more_and {s₁ = s₁} {g = g} v y m) = (g, s₁, y)
next_part connective.Or e w (no_more_or n) = absurd (n w)
next_part connective.Or e w (one_more_or {s₁ = s₁} {g = g} v y m) = (g, s₁, y)

reads_one : (c : Connective) {d : ℕ} {ts : List Token} {f : Typed} → Reads (inner c) d ts f → Reads (whole c) d ts f
reads_one connective.And r = as_conjunction r
reads_one connective.Or r = as_disjunction r

reads_more : (c : Connective) {d : ℕ} {ts us : List Token} {f g : Typed} → Reads (whole c) d ts f → Reads (inner c) d us g → Reads (whole c) d (ts ++ (sign c ∷ us)) (tree_of c f g)
reads_more connective.And r r' = by_and r r'
reads_more connective.Or r r' = by_or r r'

tree_grade : (c : Connective) (f g : Typed) → grade (tree_of c f g) ≡ worse (grade f) (grade g)
unfolding grade
tree_grade connective.And f g = refl
tree_grade connective.Or f g = refl

-- a chain of one part
pub chain_of : (c : Connective) {text : List ℕ} {room from height count : ℕ} {rs : List ℕ} {ps : List Entry} {p : Part} {rs' : List ℕ} {ps' : List Entry} → (t : Takes text (inner c) room from height count rs ps p rs' ps')
    → Ended (inner c) (drop p.next text) → Chained c text room from height count rs ps p rs' ps'
chain_of c t e =
    record {
      taken =
          record {
            tree = t.tree;
            tokens = t.tokens;
            spelled = t.spelled;
            reads = reads_one c t.reads;
            ahead = t.ahead;
            inside = t.inside;
            graded = t.graded;
            counted = t.counted;
            slim = t.slim;
            made = t.made;
            kept = t.kept;
          };
      only = λ f s x. first_only c (parsed t e) x;
      ended = e;
    }

module _ (c : Connective) {text : List ℕ} {room from height count : ℕ} {rs : List ℕ} {ps : List Entry} {p : Part} {rs' : List ℕ} {ps' : List Entry} (h : Chained c text room from height count rs ps p rs' ps')
    {at : ℕ} (w : Stands text p.next (sign c) at) where
  -- one part more
  pub chain_more : {q : Part} {rs₁ : List ℕ} {ps₁ : List Entry} (t : Takes text (inner c) room at height p.count rs' ps' q rs₁ ps₁) → Ended (inner c) (drop q.next text)
      → {j : Part} {rs₂ : List ℕ} → Joined (kind_of c) p q rs₁ j rs₂ → Chained c text room from height count rs ps j rs₂ ps₁
  unfolding pair_taken
  chain_more {q} {rs₁} {ps₁} t e {j} {rs₂} x =
      let l = h.taken in
      let whole_tree = tree_of c l.tree t.tree in
      let graded : worse p.grade q.grade ≡ grade whole_tree = ap₂ worse l.graded t.graded ∙ sym (tree_grade c l.tree t.tree) in
      let spelled = subst (λ (ts : List Token). Spells (drop from text) ts (drop q.next text)) (append_assoc l.tokens (sign c ∷ []) t.tokens) (joined (spelled_on l.spelled w) t.spelled) in
      subst (λ (k : Part). Chained c text room from height count rs ps k rs₂ ps₁) (sym x.part)
      (record {
        taken =
            pair_taken l t (tree_binary c l.tree t.tree) spelled (reads_more c l.reads t.reads) (omega arith) w.ahead (omega arith) t.inside graded
            (λ right. (left_right p.grade q.grade right, right_right p.grade q.grade right))
            x.added;
        only = λ f s y. next_only c l.tree w.token (subst (λ (r : List ℕ). Parses (part (inner c)) room r t.tree (drop q.next text)) (sym w.left) (parsed t e)) (h.only f s y);
        ended = e;
      })

  -- no part stands behind the sign, so none of the whole stands here
  pub chain_broken : Nothing (inner c) room (drop at text) → Nothing (whole c) room (drop from text)
  chain_broken n f s x =
      let y = next_part c h.taken.tree w.token (h.only f s x) in
      n y.0 y.1 (subst (λ (r : List ℕ). Parses (part (inner c)) room r y.0 y.1) w.left y.2)

-- no part stands first, so no chain
pub chain_none : (c : Connective) {room : ℕ} {s : List ℕ} → Nothing (inner c) room s → Nothing (whole c) room s
chain_none connective.And n f s (a_conjunction {s₁ = s₁} {f = g} y m) = n g s₁ y
chain_none connective.Or n f s (a_disjunction {s₁ = s₁} {f = g} y m) = n g s₁ y

-- the chain ends here
pub chain_ended : (c : Connective) {text : List ℕ} {room from height count : ℕ} {rs : List ℕ} {ps : List Entry} {p : Part} {rs' : List ℕ} {ps' : List Entry} → Chained c text room from height count rs ps p rs' ps'
    → Ends (sign c) (drop p.next text) → Ended (whole c) (drop p.next text)
chain_ended connective.And h n = n
chain_ended connective.Or h n = (h.ended, n)

-- ---- as the code reads them
-- a part that stands behind another
pub right_of : {text : List ℕ} {r : Rank} {room at height count : ℕ} {s s' : Store} {q : Part} → s.count ≡ count → s.height ≡ height → Read text r room at s q s'
    → Takes text r room at height count s.records s.pending q s'.records s'.pending
right_of c h x = rw (← c, ← h) x.takes

pub chain_joined : (c : Connective) {text : List ℕ} {room from at height count : ℕ} {rs : List ℕ} {ps : List Entry} {s₁ s₂ s₃ : Store} {p q j : Part} → Chained c text room from height count rs ps p s₁.records s₁.pending
    → Stands text p.next (sign c) at → Read text (inner c) room at s₁ q s₂ → s₁.count ≡ p.count → s₁.height ≡ height → Joins (kind_of c) p q s₂ j s₃
    → Chained c text room from height count rs ps j s₃.records s₃.pending
chain_joined c h w x n l y = rw y.adds.pending (chain_more c h w (right_of n l x) x.ends (joined_by y x.count))
