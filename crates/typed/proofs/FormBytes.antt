-- The bytes of formula records, read again: each record's four bytes spell it, its kind is known and what it doesn't use is zero.
use mathlib.Core.Path.{◌≡◌, refl, sym, ap, ◌∙◌}
use mathlib.Core.Bool.{true}
use mathlib.Core.List.{List, ◌∷◌, flatten}
use Prim.Native.Nat.{ℕ, ◌+◌, ◌*◌, ◌<◌}
use native.Mathlib.Omega.{arith}
use lib.ListN.{length, get_or}
use Rattle.model.specs.Formulas.{Form, truth, falsity, prop, nprop, conj, disj, ax, au, ag}
use Rattle.model.specs.Judged.{all}
use Rattle.layout.specs.Sizes.{formula_bytes}
use Rattle.layout.specs.Bytes.{byte, all_zero}
use Rattle.layout.specs.Formulas.{form_of, known_kind, form_at, absent}
use Rattle.layout.specs.Unused.{formula_record, unused}
use Rattle.layout.proofs.Tables.{table_map}
use Rattle.layout.proofs.EqualPieces.{piece_byte}
use Rattle.typed.specs.Records.{form_to, forms_to}
use Rattle.typed.proofs.Sizes.{length_form_to}

-- byte d of record k
pub record_byte : (fs : List Form) (k d : ℕ) → k < length fs → d < formula_bytes → byte (forms_to fs) (formula_bytes * k + d) ≡ byte (form_to (get_or fs k truth)) d
unfolding forms_to
record_byte fs k d h l =
    ap (λ ls. byte (flatten ls) (formula_bytes * k + d)) (sym (table_map form_to truth fs (length fs) refl))
    ∙ piece_byte (λ j. form_to (get_or fs j truth)) formula_bytes (λ j. length_form_to (get_or fs j truth)) (length fs) k d h l

-- the four bytes alone
form_spelled : (r : Form) → form_of (byte (form_to r) 0) (byte (form_to r) 1) (byte (form_to r) 2) ≡ r
unfolding form_of form_to
form_spelled truth = refl
form_spelled falsity = refl
form_spelled (prop p) = refl
form_spelled (nprop p) = refl
form_spelled (conj a b) = refl
form_spelled (disj a b) = refl
form_spelled (ax a) = refl
form_spelled (au a b) = refl
form_spelled (ag a) = refl

-- the first of them is a known kind
kind_spelled : (r : Form) → known_kind (byte (form_to r) 0) ≡ true
unfolding form_to
kind_spelled truth = refl
kind_spelled falsity = refl
kind_spelled (prop p) = refl
kind_spelled (nprop p) = refl
kind_spelled (conj a b) = refl
kind_spelled (disj a b) = refl
kind_spelled (ax a) = refl
kind_spelled (au a b) = refl
kind_spelled (ag a) = refl

-- the last of them, and the operands that the formula doesn't have
zeros_spelled : (r : Form) → all_zero (byte (form_to r) 3 ∷ absent r (byte (form_to r) 1) (byte (form_to r) 2)) ≡ true
unfolding form_to absent all_zero all
zeros_spelled truth = refl
zeros_spelled falsity = refl
zeros_spelled (prop p) = refl
zeros_spelled (nprop p) = refl
zeros_spelled (conj a b) = refl
zeros_spelled (disj a b) = refl
zeros_spelled (ax a) = refl
zeros_spelled (au a b) = refl
zeros_spelled (ag a) = refl

-- where they stand
module _ (r : Form) (bs : List ℕ) (at : ℕ) (written : (d : ℕ) → d < formula_bytes → byte bs (at + d) ≡ byte (form_to r) d) where
  -- the first of them
  first_byte : byte bs at ≡ byte (form_to r) 0
  first_byte = let z : at ≡ at + 0 = omega arith in ap (byte bs) z ∙ written 0 (omega arith)

  -- the record is read
  pub form_read : form_at bs at ≡ r
  unfolding form_at
  form_read =
      let a = written 1 (omega arith) in
      let b = written 2 (omega arith) in
      (λ i. form_of (first_byte i) (a i) (b i)) ∙ form_spelled r

  -- its kind is known
  pub kind_known : known_kind (byte bs at) ≡ true
  kind_known = ap known_kind first_byte ∙ kind_spelled r

  -- and 8 passes
  pub form_unused : all_zero (unused formula_record bs at) ≡ true
  unfolding unused
  form_unused =
      let a = written 1 (omega arith) in
      let b = written 2 (omega arith) in
      let c = written 3 (omega arith) in
      (λ i. all_zero (c i ∷ absent (form_read i) (a i) (b i))) ∙ zeros_spelled r
