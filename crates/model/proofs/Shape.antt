-- A numbered formula in terms of its operands' numbers, and what any recursion along the numbers makes of it.
use mathlib.Core.Path.{◌≡◌, refl, ap, ap₂, ◌∙◌}
use mathlib.Core.List.{List}
use Prim.Native.Nat.{ℕ, ◌<◌}
use lib.ListN.{length, get_or}
use Rattle.model.specs.Actl.{Actl, verum, falsum, has, lacks, both, either, AX, AU, AG}
use Rattle.model.specs.Formulas.{Form, truth, falsity, prop, nprop, conj, disj, ax, au, ag, expand, formula, LowerForm, Lower}
use Rattle.model.proofs.Grow.{grown}

-- the formula made from its operands, where t gives the operands
abbrev pub shape : (ℕ → Actl) → Form → Actl
shape t truth = verum
shape t falsity = falsum
shape t (prop p) = has p
shape t (nprop p) = lacks p
shape t (conj a b) = both (t a) (t b)
shape t (disj a b) = either (t a) (t b)
shape t (ax a) = AX (t a)
shape t (au a b) = AU (t a) (t b)
shape t (ag a) = AG (t a)

expand_shape : (t : ℕ → Actl) (k : ℕ) (r : Form) (l : List Actl) → LowerForm k r → ((i : ℕ) → i < k → get_or l i falsum ≡ t i) → expand r l ≡ shape t r
expand_shape t k truth l low h = refl
expand_shape t k falsity l low h = refl
expand_shape t k (prop p) l low h = refl
expand_shape t k (nprop p) l low h = refl
expand_shape t k (conj a b) l low h = ap₂ both (h a low.0) (h b low.1)
expand_shape t k (disj a b) l low h = ap₂ either (h a low.0) (h b low.1)
expand_shape t k (ax a) l low h = ap AX (h a low)
expand_shape t k (au a b) l low h = ap₂ AU (h a low.0) (h b low.1)
expand_shape t k (ag a) l low h = ap AG (h a low)

-- the formula with number k, by its kind
pub formula_shape : (fs : List Form) (k : ℕ) → Lower fs → k < length fs → formula fs k ≡ shape (formula fs) (get_or fs k truth)
formula_shape fs k low h =
    let r = grown expand fs k falsum h in
    r.3 ∙ expand_shape (formula fs) k (get_or fs k truth) r.0 (low k h) r.2
