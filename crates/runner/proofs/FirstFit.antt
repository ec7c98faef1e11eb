-- The first transition that fits, looked for from one transition to the next.
use mathlib.Core.Path.{◌≡◌, ap, ◌∙◌}
use mathlib.Core.Bool.{Bool, true, false, cond}
use mathlib.Core.List.{List}
use mathlib.Core.Option.{none, some}
use Prim.Native.Nat.{ℕ, suc, ◌+◌, ◌<◌}
use native.Mathlib.Numerals.{add-one}
use lib.ListN.{length, get_or, drop}
use lib.Seq.{drop-length, drop-cons}
use Rattle.model.specs.Events.{Event}
use Rattle.model.specs.Converters.{Edge, no_edge, side_events}
use Rattle.model.specs.Runs.{all_fit, first_fit}

module _ (xs : List Event) (es : List Edge) where
  -- transition k, or one behind it
  from_at : (k : ℕ) → k < length es → (b : Bool) → all_fit xs (side_events (get_or es k no_edge)) ≡ b
      → first_fit xs (drop k es) ≡ cond b (some (get_or es k no_edge)) (first_fit xs (drop (suc k) es))
  unfolding first_fit
  from_at k h b e =
      ap (first_fit xs) (drop-cons es k no_edge h) ∙ ap (λ c. cond c (some (get_or es k no_edge)) (first_fit xs (drop (suc k) es))) e

  pub fits_here : (k : ℕ) → k < length es → all_fit xs (side_events (get_or es k no_edge)) ≡ true → first_fit xs (drop k es) ≡ some (get_or es k no_edge)
  fits_here k h e = from_at k h true e

  pub fits_later : (k : ℕ) → k < length es → all_fit xs (side_events (get_or es k no_edge)) ≡ false → first_fit xs (drop k es) ≡ first_fit xs (drop (k + 1) es)
  fits_later k h e = rw add-one (from_at k h false e)

  -- no transition is left
  pub fits_nowhere : (k : ℕ) → k ≡ length es → first_fit xs (drop k es) ≡ none
  unfolding first_fit
  fits_nowhere k e = ap (λ j. first_fit xs (drop j es)) e ∙ ap (first_fit xs) (drop-length es)
