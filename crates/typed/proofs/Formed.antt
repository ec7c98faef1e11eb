-- The records that are made of formulas over labels pass 7: operands have lower numbers, propositions are labels, and each rule names a record.
use mathlib.Core.Path.{◌≡◌, refl, ap, subst, subst⁻¹, ◌∙◌}
use mathlib.Core.Logic.{⊎_elim}
use mathlib.Core.List.Memᴰ.{cases_cons as in-cases}
use mathlib.Core.List.Memᴰ.{head as here}
use mathlib.Core.List.Memᴰ.{tail as there}
use mathlib.Core.List.{List, [], ◌∷◌, ◌++◌, Memᴰ as In}
use Prim.Native.Nat.{ℕ, zero, suc, ◌+◌, ◌-◌, ◌<◌}
use native.Mathlib.Decide.{dec_lt}
use native.Mathlib.Nat.{not-suc-le-zero}
use native.Mathlib.Omega.{arith}
use lib.ListN.{length, get_or, length-append, get_or-append}
use lib.Seq.{get_or-append-add}
use Rattle.model.specs.Actl.{Actl, verum, falsum, has, lacks, both, either, AX, AU, AG}
use Rattle.model.specs.Formulas.{Form, truth, falsity, prop, nprop, conj, disj, ax, au, ag, LowerForm, Lower, PropForm, Propositions}
use Rattle.layout.specs.Sizes.{side_count}
use Rattle.typed.specs.Records.{size, last, records, sizes, all_records, rules_from}
use Rattle.typed.proofs.Sizes.{size_pos, length_records, length_all_records}
use Rattle.typed.proofs.Names.{Labelled}

-- the record with number k passes
abbrev Right : ℕ → Form → Type 0
Right k r = LowerForm k r × PropForm side_count r

-- each of some, the first of which has number n
abbrev Each : ℕ → List Form → Type 0
Each n rs = (i : ℕ) → i < length rs → Right (n + i) (get_or rs i truth)

-- of one
one : (n : ℕ) (r : Form) → Right n r → Each n (r ∷ [])
one n r h zero l = let z : n + 0 ≡ n = omega arith in subst⁻¹ (λ k. Right k r) z h
one n r h (suc i) l = absurd (omega arith)

-- of some, and of others behind them
behind : (n m : ℕ) (rs ss : List Form) → length rs ≡ m → Each n rs → Each (n + m) ss → Each n (rs ++ ss)
behind n m rs ss e h k i l =
    elim (dec_lt i (length rs)) [
      | yes y ↦ subst⁻¹ (Right (n + i)) (get_or-append rs ss truth i y) (h i y)
      | no o ↦
          let j = i - length rs in
          let z : i ≡ length rs + j = omega arith in
          let w : n + m + j ≡ n + i = omega arith in
          subst (λ q. Right q (get_or (rs ++ ss) i truth)) w
          (subst⁻¹ (Right (n + m + j)) (ap (λ q. get_or (rs ++ ss) q truth) z ∙ get_or-append-add rs ss j truth) (k j (omega (arith, length-append rs ss))))
    ]

module _ (n : ℕ) (a : Actl) where
  -- one record behind those of its operand
  unary : (r : Form) → Right (n + size a) r → Each n (records n a) → Each n (records n a ++ (r ∷ []))
  unary r h k = behind n (size a) (records n a) (r ∷ []) (length_records n a) k (one (n + size a) r h)

  -- and behind those of its two
  binary : (b : Actl) (r : Form) → Right (n + size a + size b) r → Each n (records n a) → Each (n + size a) (records (n + size a) b)
      → Each n (records n a ++ (records (n + size a) b ++ (r ∷ [])))
  binary b r h k l =
      let m = n + size a in
      behind n (size a) (records n a) (records m b ++ (r ∷ [])) (length_records n a) k
      (behind m (size b) (records m b) (r ∷ []) (length_records m b) l (one (m + size b) r h))

-- two operands are lower
two_lower : (n : ℕ) (a b : Actl) → (last n a < n + size a + size b) × (last (n + size a) b < n + size a + size b)
two_lower n a b = let p = size_pos a in let q = size_pos b in (omega arith, omega arith)

-- and one
one_lower : (n : ℕ) (a : Actl) → last n a < n + size a
one_lower n a = let p = size_pos a in omega arith

-- the records of a formula
records_right : (n : ℕ) (a : Actl) → Labelled a → Each n (records n a)
unfolding size records
records_right n verum h = one n truth (tt, tt)
records_right n falsum h = one n falsity (tt, tt)
records_right n (has p) h = one n (prop p) (tt, omega arith)
records_right n (lacks p) h = one n (nprop p) (tt, omega arith)
records_right n (both a b) h = binary n a b (conj (last n a) (last (n + size a) b)) (two_lower n a b, tt) (records_right n a h.0) (records_right (n + size a) b h.1)
records_right n (either a b) h = binary n a b (disj (last n a) (last (n + size a) b)) (two_lower n a b, tt) (records_right n a h.0) (records_right (n + size a) b h.1)
records_right n (AX a) h = unary n a (ax (last n a)) (one_lower n a, tt) (records_right n a h)
records_right n (AU a b) h = binary n a b (au (last n a) (last (n + size a) b)) (two_lower n a b, tt) (records_right n a h.0) (records_right (n + size a) b h.1)
records_right n (AG a) h = unary n a (ag (last n a)) (one_lower n a, tt) (records_right n a h)

-- and of several
all_right : (n : ℕ) (rules : List Actl) → ((a : Actl) → In a rules → Labelled a) → Each n (all_records n rules)
unfolding all_records
all_right n [] h = λ i l. absurd (not-suc-le-zero l)
all_right n (a ∷ more) h =
    behind n (size a) (records n a) (all_records (n + size a) more) (length_records n a) (records_right n a (h a (here refl)))
    (all_right (n + size a) more (λ b i. h b (there i)))

-- each rule is the number of a record
named_record : (n : ℕ) (rules : List Actl) (r : ℕ) → In r (rules_from n rules) → r < n + sizes rules
unfolding rules_from sizes
named_record n [] r i = elim i [ ]
named_record n (a ∷ more) r i =
    ⊎_elim (λ (e : r ≡ last n a). let p = size_pos a in omega arith) (λ (j : In r (rules_from (n + size a) more)). omega (arith, named_record (n + size a) more r j)) (in-cases i)

-- ---- as 7 asks it
module _ (rules : List Actl) (labelled : (a : Actl) → In a rules → Labelled a) where
  -- record k passes
  right_at : (k : ℕ) → k < length (all_records 0 rules) → Right k (get_or (all_records 0 rules) k truth)
  right_at k l = let z : 0 + k ≡ k = omega arith in subst (λ j. Right j (get_or (all_records 0 rules) k truth)) z (all_right 0 rules labelled k l)

  -- operands are lower
  pub lower : Lower (all_records 0 rules)
  lower k l = (right_at k l).0

  -- propositions are labels
  pub propositions : Propositions side_count (all_records 0 rules)
  propositions k l = (right_at k l).1

-- each rule is there
pub rules_there : (rules : List Actl) (r : ℕ) → In r (rules_from 0 rules) → r < length (all_records 0 rules)
rules_there rules r i = omega (arith, named_record 0 rules r i, length_all_records 0 rules)
