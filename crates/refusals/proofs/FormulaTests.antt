-- Test 7 of a formula and of the rules says what the model's predicates say.
use mathlib.Core.Bool.{Bool, ◌&&◌}
use mathlib.Core.Logic.{◌↔◌}
use mathlib.Core.List.{List, Memᴰ as In}
use Prim.Native.Nat.{ℕ, ◌<◌}
use native.Mathlib.Omega.{arith}
use lib.Dec.{T, ltb, leb→le, le→leb, ltb→lt, lt→ltb}
use lib.ListN.{length, get_or}
use Rattle.model.specs.Formulas.{Form, truth, falsity, prop, nprop, conj, disj, ax, au, ag, LowerForm, Lower, PropForm, Propositions}
use Rattle.model.proofs.Bools.{both_and}
use Rattle.model.proofs.Formed.{two_lower}
use Rattle.model.proofs.Lists.{all_in, in_all}
use Rattle.layout.specs.Sizes.{side_count, last_proposition}
use Rattle.layout.specs.Tests.{form_right, forms_right, rules_right}
use Rattle.layout.proofs.Tables.{each_every, every_each}

-- two operands
lower_two : (a b k : ℕ) → (a < k) × (b < k) → T (ltb a k && ltb b k)
lower_two a b k h = both_and (ltb a k) (ltb b k) (lt→ltb a k h.0) (lt→ltb b k h.1)

form_forms : (k : ℕ) (f : Form) → T (form_right k f) → LowerForm k f × PropForm side_count f
unfolding form_right
form_forms k truth t = (tt, tt)
form_forms k falsity t = (tt, tt)
form_forms k (prop p) t = (tt, let l = leb→le p last_proposition t in omega arith)
form_forms k (nprop p) t = (tt, let l = leb→le p last_proposition t in omega arith)
form_forms k (conj a b) t = (two_lower a b k t, tt)
form_forms k (disj a b) t = (two_lower a b k t, tt)
form_forms k (ax a) t = (ltb→lt a k t, tt)
form_forms k (au a b) t = (two_lower a b k t, tt)
form_forms k (ag a) t = (ltb→lt a k t, tt)

forms_form : (k : ℕ) (f : Form) → LowerForm k f × PropForm side_count f → T (form_right k f)
unfolding form_right
forms_form k truth h = tt
forms_form k falsity h = tt
forms_form k (prop p) h = le→leb p last_proposition (let l = h.1 in omega arith)
forms_form k (nprop p) h = le→leb p last_proposition (let l = h.1 in omega arith)
forms_form k (conj a b) h = lower_two a b k h.0
forms_form k (disj a b) h = lower_two a b k h.0
forms_form k (ax a) h = lt→ltb a k h.0
forms_form k (au a b) h = lower_two a b k h.0
forms_form k (ag a) h = lt→ltb a k h.0

pub formulas_formed : (fs : List Form) → T (forms_right fs) ↔ (Lower fs × Propositions side_count fs)
unfolding forms_right
formulas_formed fs =
    let p : ℕ → Bool = λ k. form_right k (get_or fs k truth) in (
      λ t. (λ k h. (form_forms k (get_or fs k truth) (every_each p (length fs) t k h)).0, λ k h. (form_forms k (get_or fs k truth) (every_each p (length fs) t k h)).1),
      λ f. each_every p (length fs) (λ k h. forms_form k (get_or fs k truth) (f.0 k h, f.1 k h)),
    )

pub rules_formed : (n : ℕ) (rs : List ℕ) → T (rules_right n rs) ↔ ((r : ℕ) → In r rs → r < n)
unfolding rules_right
rules_formed n rs = (λ t r i. ltb→lt r n (all_in (λ r. ltb r n) i t), λ f. in_all (λ r. ltb r n) rs (λ r i. lt→ltb r n (f r i)))
