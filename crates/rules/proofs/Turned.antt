-- Negation in place: the records of a rule with no temporal part become those of its negation by their kinds alone, truth for falsity, a proposition for its lack, and for or, and each the other way.
use mathlib.Core.Path.{◌≡◌, refl, sym, ap, ap₂, ◌∙◌}
use mathlib.Core.Bool.{Bool, true, false, not, ◌||◌, false≢true}
use mathlib.Core.List.{List, [], ◌∷◌, ◌++◌, map, flatten, map-append, append_assoc}
use Prim.Native.Nat.{ℕ, ◌+◌, ◌*◌, ◌≤◌}
use native.Mathlib.Omega.{arith}
use lib.ListN.{length, drop, get_or, length-append, length-map, take-append-drop}
use lib.Seq.{set_at, get_or_at, take_at, length-take-le}
use Rattle.model.specs.Actl.{Actl, verum, falsum, has, lacks, both, either, AX, AU, AG}
use Rattle.model.specs.Formulas.{Form, truth, falsity, prop, nprop, conj, disj, ax, au, ag}
use Rattle.layout.specs.Sizes.{most_formulas}
use Rattle.tokens.specs.declared.Operator.TheVariants.{Next, Always, Eventually}
use Rattle.typed.specs.Grammar.{Typed, named, constant, negated, along, until, and, or, implies}
use Rattle.typed.specs.Records.{timed, at_steps, pushed, formula_for, size, records, form_to, forms_to}
use Rattle.typed.proofs.Sizes.{length_records, length_form_to, length_forms_to}
use Rattle.rules.specs.Making.{record_room, front, opposite_kind, turned_at, turned_from}

-- ---- records
-- the record of the opposite kind
opposite_form : Form → Form
opposite_form truth = falsity
opposite_form falsity = truth
opposite_form (prop p) = nprop p
opposite_form (nprop p) = prop p
opposite_form (conj a b) = disj a b
opposite_form (disj a b) = conj a b
opposite_form (ax a) = ax a
opposite_form (au a b) = au a b
opposite_form (ag a) = ag a

-- a record's bytes and its opposite's: the kind, and three others that stay
kind_turned : (f : Form) → (kind : ℕ) × (others : List ℕ) × (form_to f ≡ kind ∷ others) × (form_to (opposite_form f) ≡ opposite_kind kind ∷ others) × (length others ≡ 3)
unfolding opposite_form form_to opposite_kind
kind_turned truth = (1, 0 ∷ 0 ∷ 0 ∷ [], refl, refl, refl)
kind_turned falsity = (2, 0 ∷ 0 ∷ 0 ∷ [], refl, refl, refl)
kind_turned (prop p) = (3, p ∷ 0 ∷ 0 ∷ [], refl, refl, refl)
kind_turned (nprop p) = (4, p ∷ 0 ∷ 0 ∷ [], refl, refl, refl)
kind_turned (conj a b) = (5, a ∷ b ∷ 0 ∷ [], refl, refl, refl)
kind_turned (disj a b) = (6, a ∷ b ∷ 0 ∷ [], refl, refl, refl)
kind_turned (ax a) = (7, a ∷ 0 ∷ 0 ∷ [], refl, refl, refl)
kind_turned (au a b) = (8, a ∷ b ∷ 0 ∷ [], refl, refl, refl)
kind_turned (ag a) = (9, a ∷ 0 ∷ 0 ∷ [], refl, refl, refl)

-- one record behind n others
record_turned : (xs ys : List ℕ) (n : ℕ) (f : Form) → length xs ≡ 4 * n → turned_at (xs ++ (form_to f ++ ys)) n ≡ (xs ++ form_to (opposite_form f)) ++ ys
record_turned xs ys n f e =
    let (kind, others, before, after, three) = kind_turned f in
    let same : get_or (xs ++ (kind ∷ (others ++ ys))) (4 * n) 0 ≡ kind = get_or_at xs kind (others ++ ys) 0 (4 * n) e in
    rw (before, after, same, append_assoc) (set_at xs kind (others ++ ys) (opposite_kind kind) (4 * n) e)

-- all of several records behind n others
all_turned : (fs : List Form) (xs ys : List ℕ) (n : ℕ) → length xs ≡ 4 * n
    → turned_from (xs ++ (forms_to fs ++ ys)) n (length fs) ≡ (xs ++ forms_to (map opposite_form fs)) ++ ys
unfolding forms_to flatten turned_from
all_turned [] xs ys n e = simp append_assoc
all_turned (f ∷ fs) xs ys n e =
    let turned = form_to (opposite_form f) in
    ap (λ l. turned_from (turned_at (xs ++ l) n) (n + 1) (length fs)) (append_assoc (form_to f) (forms_to fs) ys)
    ∙ ap (λ l. turned_from l (n + 1) (length fs)) (record_turned xs (forms_to fs ++ ys) n f e)
    ∙ all_turned fs (xs ++ turned) ys (n + 1) (omega (arith, length-append xs turned, length_form_to (opposite_form f)))
    ∙ simp append_assoc

-- and of those in a store
turned_forms : (rs : List ℕ) (n : ℕ) (fs : List Form) → n + length fs ≤ most_formulas → length rs ≡ record_room → front rs (n + length fs) ≡ front rs n ++ forms_to fs
    → front (turned_from rs n (length fs)) (n + length fs) ≡ front rs n ++ forms_to (map opposite_form fs)
turned_forms rs n fs fits long e =
    let m = n + length fs in
    let rest = drop (4 * m) rs in
    let turned = map opposite_form fs in
    let whole : rs ≡ front rs n ++ (forms_to fs ++ rest) = sym (take-append-drop (4 * m) rs) ∙ ap (λ l. l ++ rest) e ∙ append_assoc (front rs n) (forms_to fs) rest in
    let first : length (front rs n) ≡ 4 * n = length-take-le (4 * n) rs (omega arith) in
    ap (λ l. front (turned_from l n (length fs)) m) whole
    ∙ ap (λ l. front l m) (all_turned fs (front rs n) rest n first)
    ∙ take_at (front rs n ++ forms_to turned) rest (4 * m) (omega (arith, length-append (front rs n) (forms_to turned), length_forms_to turned, length-map fs opposite_form))

-- ---- formulas
-- the formula with its truths, propositions and connectives of the opposite kinds
opposite : Actl → Actl
opposite verum = falsum
opposite falsum = verum
opposite (has p) = lacks p
opposite (lacks p) = has p
opposite (both a b) = either (opposite a) (opposite b)
opposite (either a b) = both (opposite a) (opposite b)
opposite (AX a) = AX (opposite a)
opposite (AU a b) = AU (opposite a) (opposite b)
opposite (AG a) = AG (opposite a)

-- it is as large
size_opposite : (a : Actl) → size (opposite a) ≡ size a
unfolding opposite size
size_opposite verum = refl
size_opposite falsum = refl
size_opposite (has p) = refl
size_opposite (lacks p) = refl
size_opposite (both a b) = rw (size_opposite a, size_opposite b)
size_opposite (either a b) = rw (size_opposite a, size_opposite b)
size_opposite (AX a) = rw (size_opposite a)
size_opposite (AU a b) = rw (size_opposite a, size_opposite b)
size_opposite (AG a) = rw (size_opposite a)

-- the records of the opposite are the opposite records
opposite_records : (n : ℕ) (a : Actl) → map opposite_form (records n a) ≡ records n (opposite a)
unfolding opposite opposite_form records
opposite_records n verum = refl
opposite_records n falsum = refl
opposite_records n (has p) = refl
opposite_records n (lacks p) = refl
opposite_records n (both a b) = rw (size_opposite a, size_opposite b, map-append, map-append, opposite_records n a, opposite_records (n + size a) b)
opposite_records n (either a b) = rw (size_opposite a, size_opposite b, map-append, map-append, opposite_records n a, opposite_records (n + size a) b)
opposite_records n (AX a) = rw (size_opposite a, map-append, opposite_records n a)
opposite_records n (AU a b) = rw (size_opposite a, size_opposite b, map-append, map-append, opposite_records n a, opposite_records (n + size a) b)
opposite_records n (AG a) = rw (size_opposite a, map-append, opposite_records n a)

-- ---- typed rules
-- an or that is false
neither : (a b : Bool) → (a || b) ≡ false → (a ≡ false) × (b ≡ false)
neither false b e = (refl, e)
neither true b e = absurd (false≢true (sym e))

-- where no temporal part stands, a rule's negation is its opposite, and the rule that of its negation
opposite_pushed : (b : Bool) (f : Typed) → timed f ≡ false → pushed (not b) f ≡ opposite (pushed b f)
unfolding timed pushed opposite
opposite_pushed true (named p) e = refl
opposite_pushed false (named p) e = refl
opposite_pushed true (constant true) e = refl
opposite_pushed true (constant false) e = refl
opposite_pushed false (constant true) e = refl
opposite_pushed false (constant false) e = refl
opposite_pushed b (negated f) e = opposite_pushed (not b) f e
opposite_pushed b (along q o f) e = absurd (false≢true (sym e))
opposite_pushed b (until q f g) e = absurd (false≢true (sym e))
opposite_pushed true (and f g) e = let (l, r) = neither (timed f) (timed g) e in ap₂ either (opposite_pushed true f l) (opposite_pushed true g r)
opposite_pushed false (and f g) e = let (l, r) = neither (timed f) (timed g) e in ap₂ both (opposite_pushed false f l) (opposite_pushed false g r)
opposite_pushed true (or f g) e = let (l, r) = neither (timed f) (timed g) e in ap₂ both (opposite_pushed true f l) (opposite_pushed true g r)
opposite_pushed false (or f g) e = let (l, r) = neither (timed f) (timed g) e in ap₂ either (opposite_pushed false f l) (opposite_pushed false g r)
opposite_pushed true (implies f g) e = let (l, r) = neither (timed f) (timed g) e in ap₂ both (opposite_pushed false f l) (opposite_pushed true g r)
opposite_pushed false (implies f g) e = let (l, r) = neither (timed f) (timed g) e in ap₂ either (opposite_pushed true f l) (opposite_pushed false g r)

-- a rule and its negation have as many records
pub size_pushed : (b : Bool) (f : Typed) → size (pushed b f) ≡ size (formula_for f)
unfolding pushed at_steps size
size_pushed true f = refl
size_pushed false (named p) = refl
size_pushed false (constant true) = refl
size_pushed false (constant false) = refl
size_pushed false (negated f) = sym (size_pushed false f)
size_pushed false (along q Next f) = rw (size_pushed false f)
size_pushed false (along q Always f) = rw (size_pushed false f)
size_pushed false (along q Eventually f) = rw (size_pushed false f)
size_pushed false (until q f g) = rw (size_pushed false f, size_pushed false g)
size_pushed false (and f g) = rw (size_pushed false f, size_pushed false g)
size_pushed false (or f g) = rw (size_pushed false f, size_pushed false g)
size_pushed false (implies f g) = rw (size_pushed false f, size_pushed false g)

-- A rule's records, turned, are those of its negation.
pub turned_front : (rs F : List ℕ) (n : ℕ) (f : Typed) → length rs ≡ record_room → n + size (formula_for f) ≤ most_formulas → timed f ≡ false → F ≡ front rs n
    → front rs (n + size (formula_for f)) ≡ F ++ forms_to (records n (formula_for f))
    → front (turned_from rs n (size (formula_for f))) (n + size (formula_for f)) ≡ F ++ forms_to (records n (pushed false f))
turned_front rs F n f long fits e first all =
    let fs = records n (formula_for f) in
    let m : length fs ≡ size (formula_for f) = length_records n (formula_for f) in
    rw (first, opposite_pushed true f e, ← opposite_records, ← m) (turned_forms rs n fs (omega arith) long (rw m (all ∙ ap (λ l. l ++ forms_to fs) first)))
