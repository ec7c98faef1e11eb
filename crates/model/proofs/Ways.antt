-- The ways in which a formula can hold at a state, from its labels: each way lists the formulas that are then owed at every next state. A right labelling
-- takes one of them.
use mathlib.Core.Path.{◌≡◌, refl, ap, ap₂, subst, subst⁻¹, ◌∙◌}
use mathlib.Core.Bool.{Bool, true, false, not, ◌||◌, cond}
use mathlib.Core.Logic.{◌⊎◌, inl, inr, ⊎_elim}
use mathlib.Core.List.Memᴰ.{append_cases as in-append}
use mathlib.Core.List.Memᴰ.{append_left as in_left}
use mathlib.Core.List.Memᴰ.{append_right as in_right}
use mathlib.Core.List.Memᴰ.{cases_cons as in-cases}
use mathlib.Core.List.Memᴰ.{eq_of_singleton as in_one}
use mathlib.Core.List.Memᴰ.{head as here}
use mathlib.Core.List.Memᴰ.{tail as there}
use mathlib.Core.List.{List, [], ◌∷◌, ◌++◌, map, Memᴰ as In}
use Prim.Native.Nat.{ℕ, zero, suc, ◌≤◌, ◌<◌}
use native.Mathlib.Omega.{arith}
use native.Mathlib.Nat.{not-suc-le-zero}
use lib.Dec.{T}
use lib.ListN.{length, get_or}
use Rattle.model.specs.Formulas.{Form, truth, falsity, prop, nprop, conj, disj, ax, au, ag, grow, LowerForm, Lower}
use Rattle.model.specs.Positions.{any}
use Rattle.model.specs.Judged.{Kripke}
use Rattle.model.proofs.Bools.{and_both, or_either, T_true}
use Rattle.model.proofs.Lists.{all_in, in_map}
use Rattle.model.proofs.Grow.{grown}
use Rattle.model.proofs.Graph.{Serial}
use Rattle.model.proofs.Right.{LabelAt, Labelled}

-- formula numbers owed at every next state
abbrev pub Way : Type 0
Way = List ℕ

-- nothing is owed
abbrev pub free : List Way
free = [] ∷ []

abbrev pub nothing : Way → Bool
nothing [] = true
nothing (f ∷ fs) = false

-- a way of each of two formulas
unfoldable pub both_ways : List Way → List Way → List Way
both_ways [] ys = []
both_ways (x ∷ xs) ys = map (λ y. x ++ y) ys ++ both_ways xs ys

-- a way of either formula; one that owes nothing is as good as all
unfoldable pub either_way : List Way → List Way → List Way
either_way xs ys = cond (any nothing xs || any nothing ys) free (xs ++ ys)

-- nothing is owed where the test holds, and there is no way elsewhere
abbrev pub if_so : Bool → List Way
if_so b = cond b free []

-- this formula alone is owed
abbrev pub owe : ℕ → List Way
owe f = (f ∷ []) ∷ []

-- the ways of one formula, from those of the formulas before it
abbrev pub ways_of : (ℕ → Bool) → Form → List (List Way) → List Way
ways_of lab truth acc = free
ways_of lab falsity acc = []
ways_of lab (prop p) acc = if_so (lab p)
ways_of lab (nprop p) acc = if_so (not (lab p))
ways_of lab (conj a b) acc = both_ways (get_or acc a []) (get_or acc b [])
ways_of lab (disj a b) acc = either_way (get_or acc a []) (get_or acc b [])
ways_of lab (ax a) acc = owe a
ways_of lab (au a b) acc = either_way (get_or acc b []) (both_ways (get_or acc a []) (owe (length acc)))
ways_of lab (ag a) acc = both_ways (get_or acc a []) (owe (length acc))

-- the ways of formula f at a state with the labels `lab`
abbrev pub ways : List Form → (ℕ → Bool) → ℕ → List Way
ways fs lab f = get_or (grow (ways_of lab) fs []) f []

-- the ways of several formulas together
unfoldable pub ways_all : List Form → (ℕ → Bool) → List ℕ → List Way
ways_all fs lab [] = free
ways_all fs lab (f ∷ m) = both_ways (ways fs lab f) (ways_all fs lab m)

-- ---- the same, by the ways w of the operands
abbrev from_ways : (ℕ → Bool) → (ℕ → List Way) → ℕ → Form → List Way
from_ways lab w k truth = free
from_ways lab w k falsity = []
from_ways lab w k (prop p) = if_so (lab p)
from_ways lab w k (nprop p) = if_so (not (lab p))
from_ways lab w k (conj a b) = both_ways (w a) (w b)
from_ways lab w k (disj a b) = either_way (w a) (w b)
from_ways lab w k (ax a) = owe a
from_ways lab w k (au a b) = either_way (w b) (both_ways (w a) (owe k))
from_ways lab w k (ag a) = both_ways (w a) (owe k)

-- what `grow` makes of one formula
ways_from : (lab : ℕ → Bool) (w : ℕ → List Way) (k : ℕ) (r : Form) (l : List (List Way)) → length l ≡ k → LowerForm k r → ((i : ℕ) → i < k → get_or l i [] ≡ w i) → ways_of lab r l ≡ from_ways lab w k r
ways_from lab w k truth l len low h = refl
ways_from lab w k falsity l len low h = refl
ways_from lab w k (prop p) l len low h = refl
ways_from lab w k (nprop p) l len low h = refl
ways_from lab w k (conj a b) l len low h = ap₂ both_ways (h a low.0) (h b low.1)
ways_from lab w k (disj a b) l len low h = ap₂ either_way (h a low.0) (h b low.1)
ways_from lab w k (ax a) l len low h = refl
ways_from lab w k (au a b) l len low h = ap₂ either_way (h b low.1) (ap₂ both_ways (h a low.0) (ap owe len))
ways_from lab w k (ag a) l len low h = ap₂ both_ways (h a low) (ap owe len)

-- the ways of a formula are made from its operands' ways
ways_shape : (fs : List Form) (lab : ℕ → Bool) (k : ℕ) → Lower fs → k < length fs → ways fs lab k ≡ from_ways lab (ways fs lab) k (get_or fs k truth)
ways_shape fs lab k low h =
    let r = grown (ways_of lab) fs k [] h in
    r.3 ∙ ways_from lab (ways fs lab) k (get_or fs k truth) r.0 r.1 (low k h) r.2

-- ---- members
-- a way of each makes a way of both
in_both : (n m : Way) (xs ys : List Way) → In n xs → In m ys → In (n ++ m) (both_ways xs ys)
unfolding both_ways
in_both n m [] ys a b = elim a [ ]
in_both n m (x ∷ xs) ys a b =
    ⊎_elim
    (λ (e : n ≡ x). in_left (both_ways xs ys) (subst (λ (z : Way). In (n ++ m) (map (λ y. z ++ y) ys)) e (in_map (λ y. n ++ y) b)))
    (λ (h : In n xs). in_right (map (λ y. x ++ y) ys) (in_both n m xs ys h b))
    (in-cases a)

-- some way in the list owes no more than n
Less : List Way → Way → Type 0
Less zs n = (m : Way) × In m zs × ((g : ℕ) → In g m → In g n)

-- a way of one of the two leaves a way of either that owes no more
in_either : (n : Way) (xs ys : List Way) → In n xs ⊎ In n ys → Less (either_way xs ys) n
unfolding either_way Less
in_either n xs ys i = by (any nothing xs || any nothing ys)
  where
    by : (b : Bool) → (m : Way) × In m (cond b free (xs ++ ys)) × ((g : ℕ) → In g m → In g n)
    by true = ([], here refl, λ g j. elim j [ ])
    by false = (n, ⊎_elim (λ (j : In n xs). in_left ys j) (λ (j : In n ys). in_right xs j) i, λ g j. j)

-- ---- a right labelling takes a way
module _ (K : Kripke) (G : Serial K) (fs : List Form) (v : ℕ → ℕ → Bool) (low : Lower fs) (lab : Labelled K G fs v) where
  -- the formulas of a way are there, and hold at every next state
  abbrev pub Owed : ℕ → Way → Type 0
  Owed c n = (g : ℕ) → In g n → (g < length fs) × ((d : ℕ) → In d (K.succs c) → T (v g d))

  -- one of these ways is taken
  abbrev Taken : ℕ → List Way → Type 0
  Taken c zs = (n : Way) × In n zs × Owed c n

  -- each list of ways above, taken
  no_debt : (c : ℕ) → Owed c []
  no_debt c g i = elim i [ ]

  if_taken : (c : ℕ) (b : Bool) → T b → Taken c (if_so b)
  if_taken c b t = subst⁻¹ (λ (x : Bool). Taken c (if_so x)) (T_true b t) ([], here refl, no_debt c)

  one_debt : (c g : ℕ) → g < length fs → ((d : ℕ) → In d (K.succs c) → T (v g d)) → Taken c (owe g)
  one_debt c g h t = (g ∷ [], here refl, λ x i. subst⁻¹ (λ (y : ℕ). (y < length fs) × ((d : ℕ) → In d (K.succs c) → T (v y d))) (in_one i) (h, t))

  both_taken : (c : ℕ) (xs ys : List Way) → Taken c xs → Taken c ys → Taken c (both_ways xs ys)
  both_taken c xs ys a b = (
    a.0 ++ b.0,
    in_both a.0 b.0 xs ys a.1 b.1,
    λ g i. ⊎_elim (λ (j : In g a.0). a.2 g j) (λ (j : In g b.0). b.2 g j) (in-append a.0 i),
  )

  either_taken : (c : ℕ) (xs ys : List Way) → Taken c xs ⊎ Taken c ys → Taken c (either_way xs ys)
  unfolding Less
  either_taken c xs ys (inl a) = let w = in_either a.0 xs ys (inl a.1) in (w.0, w.1, λ g i. a.2 g (w.2 g i))
  either_taken c xs ys (inr a) = let w = in_either a.0 xs ys (inr a.1) in (w.0, w.1, λ g i. a.2 g (w.2 g i))

  -- where f holds, one of these ways is taken
  abbrev Takes : ℕ → List Way → ℕ → Type 0
  Takes c zs f = T (v f c) → Taken c zs

  -- one formula, from its operands
  way_at : (c : ℕ) → c < K.size → (f : ℕ) → f < length fs → (r : Form) → LowerForm f r → LabelAt K v f r
      → ((a : ℕ) → a < f → Takes c (ways fs (K.lab c) a) a) → Takes c (from_ways (K.lab c) (ways fs (K.lab c)) f r) f
  way_at c h f hf truth lw l ih t = ([], here refl, no_debt c)
  way_at c h f hf falsity lw l ih t = absurd (subst T (l c h) t)
  way_at c h f hf (prop p) lw l ih t = if_taken c (K.lab c p) (subst T (l c h) t)
  way_at c h f hf (nprop p) lw l ih t = if_taken c (not (K.lab c p)) (subst T (l c h) t)
  way_at c h f hf (conj a b) lw l ih t =
      let w = and_both (v a c) (v b c) (subst T (l c h) t) in
      both_taken c (ways fs (K.lab c) a) (ways fs (K.lab c) b) (ih a lw.0 w.0) (ih b lw.1 w.1)
  way_at c h f hf (disj a b) lw l ih t =
      either_taken c (ways fs (K.lab c) a) (ways fs (K.lab c) b)
      (⊎_elim (λ (x : T (v a c)). inl (ih a lw.0 x)) (λ (x : T (v b c)). inr (ih b lw.1 x)) (or_either (v a c) (v b c) (subst T (l c h) t)))
  way_at c h f hf (ax a) lw l ih t = one_debt c a (omega arith) (λ d i. all_in (v a) i (subst T (l c h) t))
  way_at c h f hf (au a b) lw l ih t =
      either_taken c (ways fs (K.lab c) b) (both_ways (ways fs (K.lab c) a) (owe f))
      (⊎_elim
      (λ (x : T (v b c)). inl (ih b lw.1 x))
      (λ (x : T (v a c) × ((d : ℕ) → In d (K.succs c) → T (v f d) × (l.rank d < l.rank c))).
      inr (both_taken c (ways fs (K.lab c) a) (owe f) (ih a lw.0 x.0) (one_debt c f hf (λ d i. (x.1 d i).0))))
      (l.holds c h t))
  way_at c h f hf (ag a) lw l ih t = let w = l.holds c h t in both_taken c (ways fs (K.lab c) a) (owe f) (ih a lw w.0) (one_debt c f hf w.1)

  -- all formulas below n
  way_below : (c : ℕ) → c < K.size → (n : ℕ) → n ≤ length fs → (f : ℕ) → f < n → Takes c (ways fs (K.lab c) f) f
  way_below c h zero le f hf = absurd (not-suc-le-zero hf)
  way_below c h (suc n) le f hf =
      let hl : f < length fs = omega arith in
      subst⁻¹ (λ (zs : List Way). Takes c zs f) (ways_shape fs (K.lab c) f low hl)
      (way_at c h f hl (get_or fs f truth) (low f hl) (lab f hl) (λ a ha. way_below c h n (omega arith) a (omega arith)))

  -- a formula that holds at a state does so in one of its ways
  pub way : (c : ℕ) → c < K.size → (f : ℕ) → f < length fs → T (v f c) → (n : Way) × In n (ways fs (K.lab c) f) × Owed c n
  way c h f hf t = way_below c h (length fs) (omega arith) f hf t

  -- several formulas are there and hold at a state
  abbrev pub Due : ℕ → List ℕ → Type 0
  Due c m = (f : ℕ) → In f m → (f < length fs) × T (v f c)

  -- formulas that hold together do so in one of their ways
  pub way_all : (c : ℕ) → c < K.size → (m : List ℕ) → Due c m → (n : Way) × In n (ways_all fs (K.lab c) m) × Owed c n
  unfolding ways_all
  way_all c h [] d = ([], here refl, no_debt c)
  way_all c h (f ∷ m) d = both_taken c (ways fs (K.lab c) f) (ways_all fs (K.lab c) m) (way c h f (d f (here refl)).0 (d f (here refl)).1) (way_all c h m (λ g i. d g (there i)))
