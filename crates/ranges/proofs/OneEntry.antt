-- One entry more: the side as it is after the first entries has the state that the next one names, as it was, and room for its counts.
use mathlib.Core.Path.{◌≡◌, sym, ap, subst, ◌∙◌}
use mathlib.Core.Bool.{true}
use mathlib.Core.List.{List}
use Prim.Native.Nat.{ℕ, ◌+◌, ◌≤◌, ◌<◌}
use native.Mathlib.Omega.{arith}
use lib.ListN.{length}
use Rattle.model.specs.Sides.{Side, state}
use Rattle.model.specs.Ranges.{last_count}
use Rattle.model.proofs.RangedSides.{length_ranged, unnamed_state}
use Rattle.layout.specs.Sizes.{side_count, most_states}
use Rattle.layout.specs.Designs.{design, side}
use Rattle.ranges.specs.declared.entries.Entry.{Entry}
use Rattle.ranges.specs.Entries.{entry_count, entry_at, range_of, ranges_to, list_right, sides_fit}
use Rattle.ranges.proofs.EntryLists.{with_entries, count_next, count_grows}
use Rattle.ranges.proofs.EntryTests.{entry_fits}
use Rattle.ranges.proofs.Fitting.{right_entry, unnamed_yet}
use Rattle.ranges.proofs.NewSides.{few_with}

-- side i with the first j entries
abbrev pub side_with : List ℕ → List ℕ → ℕ → ℕ → Side
side_with ds es i j = with_entries (side (design ds) i) es i j

-- an entry of the list, for side i
module _ (ds es : List ℕ) (i j : ℕ) (e : Entry) (read : e ≡ entry_at es j) (right : list_right ds es ≡ true) (l : j < entry_count es) (s : e.side ≡ i) where
  own : (entry_at es j).side ≡ i
  own = ap (λ (x : Entry). x.side) (sym read) ∙ s

  -- the state is one of the side's old ones
  pub named : e.state < length (side (design ds) i)
  unfolding range_of
  named =
      subst (λ k. e.state < length (side (design ds) k)) s
      (subst (λ (x : Entry). x.state < length (side (design ds) x.side)) (sym read) (entry_fits (design ds) (entry_at es j) (right_entry ds es right j l)).there)

  pub named_yet : e.state < length (side_with ds es i j)
  named_yet = omega (arith, named, length_ranged (side (design ds) i) (ranges_to es i j))

  -- and is as it was
  pub still : state (side_with ds es i j) e.state ≡ state (side (design ds) i) e.state
  still =
      unnamed_state (side (design ds) i) (ranges_to es i j) e.state named
      (λ r m q. unnamed_yet ds es right i j l own r m (q ∙ ap (λ (x : Entry). x.state) read))

  -- and there is room
  pub room_for : sides_fit ds es ≡ true → i < side_count → length (side_with ds es i j) + last_count (range_of e) ≤ most_states
  room_for f h =
      omega
      (arith, count_next (side (design ds) i) es i j e read s, count_grows (side (design ds) i) es i (j + 1) (entry_count es) (omega arith), few_with ds es f i h)
