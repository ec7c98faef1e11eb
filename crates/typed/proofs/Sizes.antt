-- How long the lists of records are, and their bytes: a formula of size k has k records, and a record has 4 bytes.
use mathlib.Core.Path.{◌≡◌, refl, sym, ap, ap₂, ◌∙◌}
use mathlib.Core.List.{List, [], ◌∷◌, ◌++◌, flatten, append_assoc}
use Prim.Native.Nat.{ℕ, suc, ◌+◌, ◌*◌, ◌≤◌}
use native.Mathlib.Omega.{arith}
use lib.ListN.{length, length-append}
use Rattle.model.specs.Actl.{Actl, verum, falsum, has, lacks, both, either, AX, AU, AG}
use Rattle.model.specs.Formulas.{Form, truth, falsity, prop, nprop, conj, disj, ax, au, ag}
use Rattle.typed.specs.Records.{size, last, records, sizes, all_records, rules_from, form_to, forms_to}

-- a formula has a record at least
pub size_pos : (a : Actl) → 1 ≤ size a
unfolding size
size_pos verum = omega arith
size_pos falsum = omega arith
size_pos (has p) = omega arith
size_pos (lacks p) = omega arith
size_pos (both a b) = omega arith
size_pos (either a b) = omega arith
size_pos (AX a) = omega arith
size_pos (AU a b) = omega arith
size_pos (AG a) = omega arith

-- a list, and one record behind it
one_more : (l : List Form) (n : ℕ) (r : Form) → length l ≡ n → length (l ++ (r ∷ [])) ≡ n + 1
one_more l n r e = length-append l (r ∷ []) ∙ ap (λ m. m + 1) e

-- two lists, and one record behind them
two_more : (k l : List Form) (m n : ℕ) (r : Form) → length k ≡ m → length l ≡ n → length (k ++ (l ++ (r ∷ []))) ≡ m + n + 1
two_more k l m n r e f = length-append k (l ++ (r ∷ [])) ∙ omega (arith, one_more l n r f)

-- a formula has as many records as its size says
pub length_records : (n : ℕ) (a : Actl) → length (records n a) ≡ size a
unfolding records size
length_records n verum = refl
length_records n falsum = refl
length_records n (has p) = refl
length_records n (lacks p) = refl
length_records n (both a b) = two_more (records n a) (records (n + size a) b) (size a) (size b) (conj (last n a) (last (n + size a) b)) (length_records n a) (length_records (n + size a) b)
length_records n (either a b) = two_more (records n a) (records (n + size a) b) (size a) (size b) (disj (last n a) (last (n + size a) b)) (length_records n a) (length_records (n + size a) b)
length_records n (AX a) = one_more (records n a) (size a) (ax (last n a)) (length_records n a)
length_records n (AU a b) = two_more (records n a) (records (n + size a) b) (size a) (size b) (au (last n a) (last (n + size a) b)) (length_records n a) (length_records (n + size a) b)
length_records n (AG a) = one_more (records n a) (size a) (ag (last n a)) (length_records n a)

-- and so for several
pub length_all_records : (n : ℕ) (rules : List Actl) → length (all_records n rules) ≡ sizes rules
unfolding all_records sizes
length_all_records n [] = refl
length_all_records n (a ∷ more) = length-append (records n a) (all_records (n + size a) more) ∙ ap₂ ◌+◌ (length_records n a) (length_all_records (n + size a) more)

-- a rule for each formula
pub length_rules : (n : ℕ) (rules : List Actl) → length (rules_from n rules) ≡ length rules
unfolding rules_from
length_rules n [] = refl
length_rules n (a ∷ more) = ap suc (length_rules (n + size a) more)

-- 4 bytes a record
pub length_form_to : (r : Form) → length (form_to r) ≡ 4
unfolding form_to
length_form_to truth = refl
length_form_to falsity = refl
length_form_to (prop p) = refl
length_form_to (nprop p) = refl
length_form_to (conj a b) = refl
length_form_to (disj a b) = refl
length_form_to (ax a) = refl
length_form_to (au a b) = refl
length_form_to (ag a) = refl

-- and so for several
pub length_forms_to : (fs : List Form) → length (forms_to fs) ≡ 4 * length fs
unfolding forms_to flatten
length_forms_to [] = refl
length_forms_to (r ∷ fs) = length-append (form_to r) (forms_to fs) ∙ omega (arith, length_form_to r, length_forms_to fs)

-- the bytes of records behind others stand behind theirs
pub forms_to_append : (fs gs : List Form) → forms_to (fs ++ gs) ≡ forms_to fs ++ forms_to gs
unfolding forms_to flatten
forms_to_append [] gs = refl
forms_to_append (r ∷ fs) gs = ap (λ l. form_to r ++ l) (forms_to_append fs gs) ∙ sym (append_assoc (form_to r) (forms_to fs) (forms_to gs))
