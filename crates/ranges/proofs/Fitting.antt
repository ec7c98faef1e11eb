-- Where the list is right, the ranges that it gives each side, or its first entries give, fit the side.
use mathlib.Core.Path.{◌≡◌, refl, sym, ap, subst, subst⁻¹, ◌∙◌}
use mathlib.Core.Bool.{Bool, true, false, ◌&&◌, cond}
use mathlib.Core.Logic.{⊎_elim}
use mathlib.Core.List.Memᴰ.{append_cases as in-append}
use mathlib.Core.List.Memᴰ.{eq_of_singleton as in_one}
use mathlib.Core.List.Memᴰ.{head as here}
use mathlib.Core.List.Memᴰ.{not-nil as not-in-nil}
use mathlib.Core.List.Memᴰ.{tail as there}
use mathlib.Core.List.{List, [], ◌∷◌, ◌++◌, flatten, append-nil, Memᴰ as In}
use Prim.Native.Nat.{ℕ, zero, suc, ◌%◌, ◌≤◌, ◌<◌}
use native.Mathlib.Numerals.{add-one}
use native.Mathlib.Omega.{arith}
use borrow.Author.Tests.{eqb-true, eq-eqb}
use lib.Dec.{T, eqb, eqb→eq}
use lib.ListN.{length}
use Rattle.model.specs.Sides.{Side}
use Rattle.model.specs.Ranges.{Range, Fits, AllFit}
use Rattle.model.proofs.Bools.{and_both}
use Rattle.model.proofs.Lists.{of_one}
use Rattle.layout.specs.Tables.{table, table_from, every, distinct}
use Rattle.layout.specs.Designs.{design, side}
use Rattle.layout.proofs.Tables.{true_T, and_true, and_left, and_right, every_at, distinct_once}
use Rattle.ranges.specs.declared.entries.Entry.{Entry}
use Rattle.ranges.specs.Entries.{entry_bytes, entry_count, entry_at, range_of, of_side, ranges_to, side_ranges, entry_right, same_state, list_right}
use Rattle.ranges.proofs.EntryLists.{ranges_more}
use Rattle.ranges.proofs.EntryTests.{entry_fits}

-- ---- one range behind others
fit_more : (S : Side) (rs : List Range) (r : Range) → AllFit S rs → Fits S r → ((p : Range) → In p rs → p.state ≡ r.state → ⊥) → AllFit S (rs ++ (r ∷ []))
fit_more S [] r a f n = (f, λ p i. absurd (not-in-nil i), tt)
fit_more S (x ∷ rs) r a f n = (
  a.0,
  λ p i e. ⊎_elim (λ (j : In p rs). a.1 p j e) (λ (j : In p (r ∷ [])). n x (here refl) (sym e ∙ ap (λ (q : Range). q.state) (in_one j))) (in-append rs i),
  fit_more S rs r a.2 f (λ p i. n p (there i)),
)

-- ---- the first entries
module _ (es : List ℕ) (i : ℕ) where
  none_yet : (r : Range) → In r (ranges_to es i 0) → In r []
  unfolding ranges_to table table_from flatten
  none_yet r m = m

  -- a range comes from an entry for the side
  of_entry : (e : Entry) (r : Range) → In r (of_side i e) → (e.side ≡ i) × (r ≡ range_of e)
  of_entry e r m = let w = of_one (eqb e.side i) r (range_of e) m in (eqb→eq e.side i w.0, w.1)

  from_entry : (n : ℕ) (r : Range) → In r (ranges_to es i n) → (j : ℕ) × (j < n) × ((entry_at es j).side ≡ i) × (r ≡ range_of (entry_at es j))
  from_entry zero r m = absurd (not-in-nil (none_yet r m))
  from_entry (suc n) r m =
      ⊎_elim
      (λ (k : In r (ranges_to es i n)). let w = from_entry n r k in (w.0, omega (arith, w.1), w.2, w.3))
      (λ (k : In r (of_side i (entry_at es n))). let w = of_entry (entry_at es n) r k in (n, omega arith, w.0, w.1))
      (in-append (ranges_to es i n) (subst (λ (l : List Range). In r l) (ap (ranges_to es i) (sym (add-one n)) ∙ ranges_more es i n) m))

-- ---- all entries
module _ (ds es : List ℕ) (right : list_right ds es ≡ true) where
  abbrev same : ℕ → ℕ → Bool
  same j k = same_state (entry_at es j) (entry_at es k)

  -- an entry of the list is right
  pub right_entry : (j : ℕ) → j < entry_count es → entry_right (design ds) (entry_at es j) ≡ true
  unfolding list_right
  right_entry =
      let a = eqb (length es % entry_bytes) 0 in
      let b = every (entry_count es) (λ j. entry_right (design ds) (entry_at es j)) in
      every_at (λ j. entry_right (design ds) (entry_at es j)) (entry_count es) (and_right a b (and_left (a && b) (distinct (entry_count es) same) right))

  -- two entries for one state of a side are one entry
  one_entry : (j k : ℕ) → j < entry_count es → k < entry_count es → (entry_at es j).side ≡ (entry_at es k).side → (entry_at es j).state ≡ (entry_at es k).state → j ≡ k
  unfolding list_right
  one_entry j k hj hk e f =
      let a = eqb (length es % entry_bytes) 0 in
      let b = every (entry_count es) (λ j. entry_right (design ds) (entry_at es j)) in
      distinct_once same swap (entry_count es) (true_T _ (and_right (a && b) (distinct (entry_count es) same) right)) j k hj hk (equal j k e f)
    where
      equal : (j k : ℕ) → (entry_at es j).side ≡ (entry_at es k).side → (entry_at es j).state ≡ (entry_at es k).state → T (same j k)
      equal j k e f =
          true_T (same j k)
          (and_true (eqb (entry_at es j).side (entry_at es k).side) (eqb (entry_at es j).state (entry_at es k).state)
          (eq-eqb (entry_at es j).side (entry_at es k).side e) (eq-eqb (entry_at es j).state (entry_at es k).state f))

      swap : (j k : ℕ) → T (same j k) → T (same k j)
      swap j k t =
          let u = and_both (eqb (entry_at es j).side (entry_at es k).side) (eqb (entry_at es j).state (entry_at es k).state) t in
          equal k j (sym (eqb→eq (entry_at es j).side (entry_at es k).side u.0)) (sym (eqb→eq (entry_at es j).state (entry_at es k).state u.1))

  module _ (i : ℕ) where
    -- what an entry names, no entry before it has named
    pub unnamed_yet : (n : ℕ) → n < entry_count es → (entry_at es n).side ≡ i → (r : Range) → In r (ranges_to es i n) → r.state ≡ (entry_at es n).state → ⊥
    unfolding range_of
    unnamed_yet n h s r m e =
        let w = from_entry es i n r m in
        let l : w.0 < n = w.1 in
        let z : w.0 ≡ n = one_entry w.0 n (omega arith) h (w.2 ∙ sym s) (sym (ap (λ (x : Range). x.state) w.3) ∙ e) in
        omega arith

    -- the ranges of the first n entries fit
    ranges_fit_to : (n : ℕ) → n ≤ entry_count es → AllFit (side (design ds) i) (ranges_to es i n)
    unfolding ranges_to table table_from flatten range_of
    ranges_fit_to zero h = tt
    ranges_fit_to (suc n) h =
        subst⁻¹ (AllFit (side (design ds) i)) (ap (ranges_to es i) (sym (add-one n)) ∙ ranges_more es i n) (by (eqb (entry_at es n).side i) refl (ranges_fit_to n (omega arith)))
      where
        by : (b : Bool) → eqb (entry_at es n).side i ≡ b → AllFit (side (design ds) i) (ranges_to es i n)
            → AllFit (side (design ds) i) (ranges_to es i n ++ cond b (range_of (entry_at es n) ∷ []) [])
        by true t a =
            let s = eqb-true (entry_at es n).side i t in
            fit_more (side (design ds) i) (ranges_to es i n) (range_of (entry_at es n)) a
            (subst (λ (k : ℕ). Fits (side (design ds) k) (range_of (entry_at es n))) s (entry_fits (design ds) (entry_at es n) (right_entry n (omega arith))))
            (unnamed_yet n (omega arith) s)
        by false t a = subst⁻¹ (AllFit (side (design ds) i)) (append-nil (ranges_to es i n)) a

    -- and those of all
    pub ranges_fit : AllFit (side (design ds) i) (side_ranges es i)
    ranges_fit = ranges_fit_to (entry_count es) (omega arith)
