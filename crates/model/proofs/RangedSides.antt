-- The table in which states count their waits: how long it is, which states stand where, and that it is well-formed where the side is.
use mathlib.Core.Path.{◌≡◌, refl, sym, ap, ◌∙◌}
use mathlib.Core.Logic.{◌⊎◌, inl, inr, ⊎_elim}
use mathlib.Core.List.Memᴰ.{cases_cons as in-cases}
use mathlib.Core.List.Memᴰ.{head as here}
use mathlib.Core.List.Memᴰ.{tail as there}
use mathlib.Core.List.{List, [], ◌∷◌, ◌++◌, Memᴰ as In}
use Prim.Native.Nat.{ℕ, zero, suc, ◌+◌, ◌-◌, ◌≤◌, ◌<◌}
use native.Mathlib.Omega.{arith}
use native.Mathlib.Nat.{not-suc-le-zero, add-zero}
use native.Mathlib.Decide.{ℕ_discrete, dec_lt}
use native.Mathlib.Numerals.{add-one}
use lib.ListN.{length, get_or, set, length-append, length-set, get_or-append}
use lib.Seq.{get_or-append-add, get_or-set_same, get_or-set_other}
use Rattle.model.specs.Sides.{State, Side, state, no_state, WellFormedState, HasKind, WellFormedSide}
use Rattle.model.specs.Ranges.{Range, last_count, count_number, counted, counts, replaced, ranged, Fits, AllFit}
use Rattle.model.proofs.CountedStates.{counted_formed, counted_kind}

-- ---- lengths
pub length_counts : (r : Range) (n : ℕ) (q : State) (k j : ℕ) → length (counts r n q k j) ≡ j
unfolding counts
length_counts r n q k zero = refl
length_counts r n q k (suc j) = ap suc (length_counts r n q (suc k) j)

pub length_replaced : (S : Side) (r : Range) → length (replaced S r) ≡ length S + last_count r
unfolding replaced
length_replaced S r = simp (length-append, length-set, length_counts)

-- one count more
counts_suc : (r : Range) (n : ℕ) (q : State) (k j : ℕ) → counts r n q k (suc j) ≡ counts r n q k j ++ (counted r n q (k + j) ∷ [])
unfolding counts
counts_suc r n q k zero = ap (λ i. counted r n q i ∷ []) (omega arith)
counts_suc r n q k (suc j) = ap (λ l. counted r n q k ∷ l) (counts_suc r n q (suc k) j ∙ ap (λ i. counts r n q (suc k) j ++ (counted r n q i ∷ [])) (omega arith))

pub counts_more : (r : Range) (n : ℕ) (q : State) (k j : ℕ) → counts r n q k (j + 1) ≡ counts r n q k j ++ (counted r n q (k + j) ∷ [])
counts_more r n q k j = ap (counts r n q k) (add-one j) ∙ counts_suc r n q k j

-- how many states the ranges add
unfoldable pub added_states : List Range → ℕ
added_states [] = 0
added_states (r ∷ rs) = last_count r + added_states rs

pub length_ranged : (S : Side) (rs : List Range) → length (ranged S rs) ≡ length S + added_states rs
unfolding ranged added_states
length_ranged S [] = omega arith
length_ranged S (r ∷ rs) = omega (arith, length_ranged (replaced S r) rs, length_replaced S r)

pub ranged_behind : (S : Side) (rs : List Range) (r : Range) → ranged S (rs ++ (r ∷ [])) ≡ replaced (ranged S rs) r
unfolding ranged
ranged_behind S [] r = refl
ranged_behind S (p ∷ rs) r = ranged_behind (replaced S p) rs r

-- ---- which state stands where
-- a state that the range doesn't name stays
pub other_state : (S : Side) (r : Range) (s : ℕ) → s < length S → (r.state ≡ s → ⊥) → state (replaced S r) s ≡ state S s
unfolding replaced
other_state S r s h n =
    let q = counted r (length S) (state S r.state) 0 in
    get_or-append (set S r.state q) (counts r (length S) (state S r.state) 1 (last_count r)) no_state s (rw length-set h)
    ∙ get_or-set_other S r.state s q no_state (λ e. n (sym e))

-- and so does one that no range names
pub unnamed_state : (S : Side) (rs : List Range) (s : ℕ) → s < length S → ((r : Range) → In r rs → r.state ≡ s → ⊥) → state (ranged S rs) s ≡ state S s
unfolding ranged
unnamed_state S [] s h n = refl
unnamed_state S (r ∷ rs) s h n =
    unnamed_state (replaced S r) rs s (omega (arith, length_replaced S r)) (λ p i. n p (there i)) ∙ other_state S r s h (n r (here refl))

-- the states that count
counts_state : (r : Range) (n : ℕ) (q : State) (k j i : ℕ) → i < j → get_or (counts r n q k j) i no_state ≡ counted r n q (k + i)
unfolding counts
counts_state r n q k zero i h = absurd (not-suc-le-zero h)
counts_state r n q k (suc j) zero h = rw add-zero
counts_state r n q k (suc j) (suc i) h = counts_state r n q (suc k) j i (omega arith) ∙ ap (counted r n q) (omega arith)

pub count_state : (S : Side) (r : Range) (k : ℕ) → r.state < length S → k ≤ last_count r
    → state (replaced S r) (count_number r (length S) k) ≡ counted r (length S) (state S r.state) k
unfolding replaced
count_state S r zero h l =
    let q = counted r (length S) (state S r.state) 0 in
    get_or-append (set S r.state q) (counts r (length S) (state S r.state) 1 (last_count r)) no_state r.state (rw length-set h)
    ∙ get_or-set_same S r.state q no_state h
count_state S r (suc k) h l =
    let q = counted r (length S) (state S r.state) 0 in
    let cs = counts r (length S) (state S r.state) 1 (last_count r) in
    ap (λ (n : ℕ). get_or (set S r.state q ++ cs) (n + k) no_state) (sym (length-set S r.state q))
    ∙ get_or-append-add (set S r.state q) cs k no_state
    ∙ counts_state r (length S) (state S r.state) 1 (last_count r) k (omega arith)
    ∙ ap (counted r (length S) (state S r.state)) (omega arith)

-- each state of the longer table is one of these two
old_or_count : (S : Side) (r : Range) (s : ℕ) → s < length (replaced S r)
    → ((s < length S) × (r.state ≡ s → ⊥)) ⊎ ((k : ℕ) × (k ≤ last_count r) × (s ≡ count_number r (length S) k))
old_or_count S r s h = by (dec_lt s (length S)) (ℕ_discrete r.state s)
  where
    by : Dec (s < length S) → Dec (r.state ≡ s) → ((s < length S) × (r.state ≡ s → ⊥)) ⊎ ((k : ℕ) × (k ≤ last_count r) × (s ≡ count_number r (length S) k))
    by (yes l) (no n) = inl (l, n)
    by (yes l) (yes e) = inr (0, omega arith, sym e)
    by (no n) d = inr (suc (s - length S), omega (arith, length_replaced S r), omega arith)

-- ---- well-formed sides
-- what is asked of a well-formed side, of however many states
pub record Whole (S : Side) : Type 0 where
  pub some_state : 1 ≤ length S
  pub each : (s : ℕ) → s < length S → WellFormedState (length S) (state S s)
  pub kinds : (s : ℕ) → s < length S → HasKind (state S s)

pub whole : (S : Side) → WellFormedSide S → Whole S
whole S wf = record { some_state = wf.some_state; each = wf.each; kinds = wf.kinds }

-- a state keeps its form where there are more states
more_states : (n k : ℕ) (q : State) → n ≤ k → WellFormedState n q → WellFormedState k q
more_states n k q l f =
    record {
      some_move = f.some_move;
      at_most_eight = f.at_most_eight;
      in_range = f.in_range;
      once = f.once;
      inside = λ m i. omega (arith, f.inside m i);
    }

-- one state replaced leaves the side whole
module _ (S : Side) (r : Range) (W : Whole S) (fits : Fits S r) where
  counted_at : (k : ℕ)
      → WellFormedState (length S + last_count r) (counted r (length S) (state S r.state) k) × HasKind (counted r (length S) (state S r.state) k)
  counted_at k =
      let q = state S r.state in
      let d = fits.waits.0 in
      (counted_formed r (length S) k q d fits.within fits.there (W.each r.state fits.there), counted_kind r (length S) k q d fits.within)

  formed_at : (s : ℕ) → s < length (replaced S r) → WellFormedState (length (replaced S r)) (state (replaced S r) s) × HasKind (state (replaced S r) s)
  formed_at s h =
      let n = length_replaced S r in
      ⊎_elim
      (λ o. rw (other_state S r s o.0 o.1, n) (more_states (length S) (length S + last_count r) (state S s) (omega arith) (W.each s o.0), W.kinds s o.0))
      (λ o. rw (o.2, count_state S r o.0 fits.there o.1, n) (counted_at o.0))
      (old_or_count S r s h)

  pub replaced_whole : Whole (replaced S r)
  replaced_whole =
      let l = W.some_state in
      record {
        some_state = omega (arith, length_replaced S r);
        each = λ s h. (formed_at s h).0;
        kinds = λ s h. (formed_at s h).1;
      }

-- ---- ranges that fit
-- each of them does
pub each_fits : (S : Side) (rs : List Range) → AllFit S rs → (p : Range) → In p rs → Fits S p
each_fits S [] f p i = elim i [ ]
each_fits S (r ∷ rs) f p i = ⊎_elim (λ (e : p ≡ r). rw e f.0) (λ (j : In p rs). each_fits S rs f.2 p j) (in-cases i)

-- the others fit as before where one state is replaced
fits_kept : (S : Side) (r p : Range) → (p.state ≡ r.state → ⊥) → Fits S p → Fits (replaced S r) p
fits_kept S r p n f =
    record {
      there = omega (arith, length_replaced S r, f.there);
      waits = rw (other_state S r p.state f.there (λ e. n (sym e))) f.waits;
      within = f.within;
    }

pub all_fit_kept : (S : Side) (r : Range) (rs : List Range) → ((p : Range) → In p rs → p.state ≡ r.state → ⊥) → AllFit S rs → AllFit (replaced S r) rs
all_fit_kept S r [] n f = tt
all_fit_kept S r (p ∷ rs) n f = (fits_kept S r p (n p (here refl)) f.0, f.1, all_fit_kept S r rs (λ x i. n x (there i)) f.2)

-- ---- all states replaced
ranged_whole : (S : Side) (rs : List Range) → Whole S → AllFit S rs → Whole (ranged S rs)
unfolding ranged
ranged_whole S [] W f = W
ranged_whole S (r ∷ rs) W f = ranged_whole (replaced S r) rs (replaced_whole S r W f.0) (all_fit_kept S r rs f.1 f.2)

pub ranged_formed : (S : Side) (rs : List Range) → WellFormedSide S → AllFit S rs → length (ranged S rs) ≤ 16 → WellFormedSide (ranged S rs)
ranged_formed S rs wf f l =
    let w = ranged_whole S rs (whole S wf) f in
    record { some_state = w.some_state; at_most_sixteen = l; each = w.each; kinds = w.kinds }
