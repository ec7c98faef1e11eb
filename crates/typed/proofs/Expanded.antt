-- The records that are made of a formula expand to it again, wherever in a list they stand from their own first number on; and so each rule's number names the formula that it was made of.
use mathlib.Core.Path.{◌≡◌, refl, ap, ap₂, ◌∙◌}
use mathlib.Core.List.{List, [], ◌∷◌, ◌++◌}
use Prim.Native.Nat.{ℕ, zero, suc, ◌+◌, ◌-◌, ◌<◌}
use native.Mathlib.Nat.{not-suc-le-zero}
use native.Mathlib.Omega.{arith}
use lib.ListN.{length, get_or, length-append, get_or-append}
use lib.Seq.{get_or-append-add}
use Rattle.model.specs.Actl.{Actl, verum, falsum, has, lacks, both, either, AX, AU, AG}
use Rattle.model.specs.Formulas.{Form, truth, falsity, prop, nprop, conj, disj, ax, au, ag, expand, formula}
use Rattle.model.proofs.Grow.{grown}
use Rattle.typed.specs.Records.{size, last, records, all_records, rules_from}
use Rattle.typed.proofs.Sizes.{size_pos, length_records}

-- the records rs stand in fs from number n on
abbrev Here : List Form → ℕ → List Form → Type 0
Here fs n rs = (i : ℕ) → i < length rs → (n + i < length fs) × (get_or fs (n + i) truth ≡ get_or rs i truth)

-- of two lists one behind the other, the first stands there
here_left : (fs : List Form) (n : ℕ) (rs ss : List Form) → Here fs n (rs ++ ss) → Here fs n rs
here_left fs n rs ss h i l = let w = h i (omega (arith, length-append rs ss)) in (w.0, w.1 ∙ get_or-append rs ss truth i l)

-- and the second
here_right : (fs : List Form) (n m : ℕ) (rs ss : List Form) → length rs ≡ m → Here fs n (rs ++ ss) → Here fs (n + m) ss
here_right fs n m rs ss e h i l =
    let w = h (length rs + i) (omega (arith, length-append rs ss)) in
    let z : n + m + i ≡ n + (length rs + i) = omega arith in
    (omega (arith, w.0), ap (λ k. get_or fs k truth) z ∙ w.1 ∙ get_or-append-add rs ss i truth)

module _ (fs : List Form) where
  -- formula k is made of record r and of those before it
  abbrev Made : ℕ → Form → Type 0
  Made k r = (l : List Actl) × ((i : ℕ) → i < k → get_or l i falsum ≡ formula fs i) × (formula fs k ≡ expand r l)

  -- the record that stands at k
  made : (k n : ℕ) (r : Form) → Here fs n (r ∷ []) → k ≡ n → Made k r
  made k n r h e =
      let w = h 0 (omega arith) in
      let z : k ≡ n + 0 = omega arith in
      let g = grown expand fs k falsum (omega (arith, w.0)) in
      (g.0, g.2, g.3 ∙ ap (λ q. expand q g.0) (ap (λ i. get_or fs i truth) z ∙ w.1))

  -- of two
  made_two : (o : ℕ → ℕ → Form) (op : Actl → Actl → Actl) → ((i j : ℕ) (l : List Actl) → expand (o i j) l ≡ op (get_or l i falsum) (get_or l j falsum))
      → (k i j : ℕ) → Made k (o i j) → i < k → j < k → {a b : Actl} → formula fs i ≡ a → formula fs j ≡ b → formula fs k ≡ op a b
  made_two o op x k i j w h l e f = w.2 ∙ x i j w.0 ∙ ap₂ op (w.1 i h ∙ e) (w.1 j l ∙ f)

  module _ (n : ℕ) where
    -- with no operand
    leaf : (r : Form) (a : Actl) → ((l : List Actl) → expand r l ≡ a) → Here fs n (r ∷ []) → formula fs (n + 1 - 1) ≡ a
    leaf r a x h = let w = made (n + 1 - 1) n r h (omega arith) in w.2 ∙ x w.0

    -- with one
    unary : (o : ℕ → Form) (op : Actl → Actl) (a : Actl) → ((i : ℕ) (l : List Actl) → expand (o i) l ≡ op (get_or l i falsum))
        → (Here fs n (records n a) → formula fs (last n a) ≡ a) → Here fs n (records n a ++ (o (last n a) ∷ [])) → formula fs (n + (size a + 1) - 1) ≡ op a
    unary o op a x rec h =
        let k = n + (size a + 1) - 1 in
        let p = size_pos a in
        let w = made k (n + size a) (o (last n a)) (here_right fs n (size a) (records n a) (o (last n a) ∷ []) (length_records n a) h) (omega arith) in
        w.2 ∙ x (last n a) w.0 ∙ ap op (w.1 (last n a) (omega arith) ∙ rec (here_left fs n (records n a) (o (last n a) ∷ []) h))

    -- with two
    binary : (o : ℕ → ℕ → Form) (op : Actl → Actl → Actl) (a b : Actl) → ((i j : ℕ) (l : List Actl) → expand (o i j) l ≡ op (get_or l i falsum) (get_or l j falsum))
        → (Here fs n (records n a) → formula fs (last n a) ≡ a)
        → (Here fs (n + size a) (records (n + size a) b) → formula fs (last (n + size a) b) ≡ b)
        → Here fs n (records n a ++ (records (n + size a) b ++ (o (last n a) (last (n + size a) b) ∷ [])))
        → formula fs (n + (size a + size b + 1) - 1) ≡ op a b
    binary o op a b x rec rec' h =
        let m = n + size a in
        let r = o (last n a) (last m b) in
        let p = size_pos a in
        let q = size_pos b in
        let behind = here_right fs n (size a) (records n a) (records m b ++ (r ∷ [])) (length_records n a) h in
        let w = made (n + (size a + size b + 1) - 1) (m + size b) r (here_right fs m (size b) (records m b) (r ∷ []) (length_records m b) behind) (omega arith) in
        made_two o op x (n + (size a + size b + 1) - 1) (last n a) (last m b) w (omega arith) (omega arith) (rec (here_left fs n (records n a) (records m b ++ (r ∷ [])) h))
        (rec' (here_left fs m (records m b) (r ∷ []) behind))

  -- the records of a formula expand to it
  spelled : (n : ℕ) (a : Actl) → Here fs n (records n a) → formula fs (last n a) ≡ a
  unfolding size records
  spelled n verum h = leaf n truth verum (λ l. refl) h
  spelled n falsum h = leaf n falsity falsum (λ l. refl) h
  spelled n (has p) h = leaf n (prop p) (has p) (λ l. refl) h
  spelled n (lacks p) h = leaf n (nprop p) (lacks p) (λ l. refl) h
  spelled n (both a b) h = binary n conj both a b (λ i j l. refl) (spelled n a) (spelled (n + size a) b) h
  spelled n (either a b) h = binary n disj either a b (λ i j l. refl) (spelled n a) (spelled (n + size a) b) h
  spelled n (AX a) h = unary n ax AX a (λ i l. refl) (spelled n a) h
  spelled n (AU a b) h = binary n au AU a b (λ i j l. refl) (spelled n a) (spelled (n + size a) b) h
  spelled n (AG a) h = unary n ag AG a (λ i l. refl) (spelled n a) h

  -- and so do those of several, each at its rule's number
  all_spelled : (n : ℕ) (rules : List Actl) → Here fs n (all_records n rules) → (i : ℕ) → i < length rules → formula fs (get_or (rules_from n rules) i 0) ≡ get_or rules i falsum
  unfolding all_records rules_from
  all_spelled n [] h i l = absurd (not-suc-le-zero l)
  all_spelled n (a ∷ more) h zero l = spelled n a (here_left fs n (records n a) (all_records (n + size a) more) h)
  all_spelled n (a ∷ more) h (suc i) l =
      all_spelled (n + size a) more (here_right fs n (size a) (records n a) (all_records (n + size a) more) (length_records n a) h) i (omega arith)

-- behind others, and before others
pub expanded : (before after : List Form) (a : Actl) → formula (before ++ (records (length before) a ++ after)) (last (length before) a) ≡ a
expanded before after a =
    let rs = records (length before) a in
    spelled (before ++ (rs ++ after)) (length before) a (λ i l. (
      omega (arith, length-append before (rs ++ after), length-append rs after),
      get_or-append-add before (rs ++ after) i truth ∙ get_or-append rs after truth i l,
    ))

-- the formulas of a design are the records of its rules
pub rules_expanded : (rules : List Actl) (i : ℕ) → i < length rules → formula (all_records 0 rules) (get_or (rules_from 0 rules) i 0) ≡ get_or rules i falsum
rules_expanded rules = all_spelled (all_records 0 rules) 0 rules (λ i l. (omega arith, ap (λ k. get_or (all_records 0 rules) k truth) (omega arith)))
