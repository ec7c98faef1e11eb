-- The ranges that a list of entries gives a side, entry by entry, and the side with them.
use mathlib.Core.Path.{◌≡◌, refl, sym, ap, ◌∙◌}
use mathlib.Core.Bool.{Bool, cond}
use mathlib.Core.List.{List, [], ◌∷◌, ◌++◌, flatten, append-nil}
use Prim.Native.Nat.{ℕ, zero, suc, ◌+◌, ◌≤◌}
use native.Mathlib.Decide.{ℕ_discrete}
use native.Mathlib.Numerals.{add-one}
use native.Mathlib.Omega.{arith}
use borrow.Author.Tests.{eq-eqb, ne_eqb}
use lib.ListN.{length}
use Rattle.model.specs.Sides.{Side}
use Rattle.model.specs.Ranges.{last_count, replaced, ranged}
use Rattle.model.proofs.RangedSides.{length_replaced, ranged_behind}
use Rattle.layout.specs.Tables.{table, table_from}
use Rattle.layout.proofs.Pieces.{pieces_more}
use Rattle.ranges.specs.declared.entries.Entry.{Entry}
use Rattle.ranges.specs.Entries.{entry_at, range_of, of_side, ranges_to}

-- one entry more
pub ranges_more : (es : List ℕ) (i j : ℕ) → ranges_to es i (j + 1) ≡ ranges_to es i j ++ of_side i (entry_at es j)
unfolding ranges_to
ranges_more es i j = pieces_more (λ k. of_side i (entry_at es k)) j

-- ---- the side S, of number i, with the first j entries
module _ (S : Side) (es : List ℕ) (i : ℕ) where
  abbrev pub with_entries : ℕ → Side
  with_entries j = ranged S (ranges_to es i j)

  pub with_none : with_entries 0 ≡ S
  unfolding ranged ranges_to table table_from flatten
  with_none = refl

  module _ (j : ℕ) (e : Entry) (read : e ≡ entry_at es j) where
    -- an entry for the side replaces a state
    pub named_next : e.side ≡ i → with_entries (j + 1) ≡ replaced (with_entries j) (range_of e)
    named_next s =
        ap (ranged S)
        (ranges_more es i j
        ∙ ap (λ x. ranges_to es i j ++ of_side i x) (sym read)
        ∙ ap (λ (b : Bool). ranges_to es i j ++ cond b (range_of e ∷ []) []) (eq-eqb e.side i s))
        ∙ ranged_behind S (ranges_to es i j) (range_of e)

    -- so the side has so many states more
    pub count_next : e.side ≡ i → length (with_entries (j + 1)) ≡ length (with_entries j) + last_count (range_of e)
    count_next s = ap length (named_next s) ∙ length_replaced (with_entries j) (range_of e)

    -- an entry for another side changes nothing
    pub not_named : (e.side ≡ i → ⊥) → with_entries (j + 1) ≡ with_entries j
    not_named n =
        ap (ranged S)
        (ranges_more es i j
        ∙ ap (λ x. ranges_to es i j ++ of_side i x) (sym read)
        ∙ ap (λ (b : Bool). ranges_to es i j ++ cond b (range_of e ∷ []) []) (ne_eqb e.side i n)
        ∙ append-nil (ranges_to es i j))

  -- more entries, no fewer states
  pub count_grows : (j k : ℕ) → j ≤ k → length (with_entries j) ≤ length (with_entries k)
  count_grows j zero h = let e : j ≡ 0 = omega arith in omega (arith, ap (λ n. length (with_entries n)) e)
  count_grows j (suc k) h =
      elim (ℕ_discrete j (suc k)) [
        | yes e ↦ omega (arith, ap (λ n. length (with_entries n)) e)
        | no n ↦ omega (arith, count_grows j k (omega arith), one_more k, ap (λ m. length (with_entries m)) (add-one k))
      ]
    where
      one_more : (k : ℕ) → length (with_entries k) ≤ length (with_entries (k + 1))
      one_more k =
          elim (ℕ_discrete (entry_at es k).side i) [
            | yes s ↦ omega (arith, count_next k (entry_at es k) refl s)
            | no n ↦ omega (arith, ap length (not_named k (entry_at es k) refl n))
          ]
