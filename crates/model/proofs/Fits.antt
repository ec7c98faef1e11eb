-- What fits: a transition fits what is shown exactly when its side events show it, and the tick finds the first that does.
use mathlib.Core.Path.{◌≡◌, refl, sym, ap, ap₂, subst, ◌∙◌}
use mathlib.Core.Bool.{Bool, cond}
use mathlib.Core.List.{List, [], ◌∷◌}
use mathlib.Core.Option.{none, some}
use Prim.Native.Nat.{ℕ, zero, suc, ◌<◌}
use native.Mathlib.Omega.{arith}
use native.Mathlib.Nat.{not-suc-le-zero}
use lib.Dec.{T, eqb_refl}
use lib.ListN.{length, get_or}
use lib.IntN.{pos, negsuc}
use Rattle.model.specs.Events.{Event, shown, shows}
use Rattle.model.specs.Converters.{Edge, no_edge, side_events}
use Rattle.model.specs.Runs.{fits, all_fit, first_fit}
use Rattle.model.proofs.SameEvent.{same_event_eq}
use Rattle.model.proofs.Bools.{and_both, both_and, T-dec, T_true, T_false}
use Rattle.model.proofs.StateKinds.{shown_unsent}

-- ---- a shown event fits exactly the events that show it
fit_shows : (x e : Event) → T (fits x e) → shown e ≡ x
unfolding fits
fit_shows (pos zero) e t = shown_unsent e t
fit_shows (pos (suc n)) e t = absurd t
fit_shows (negsuc n) e t = ap shown (sym (same_event_eq (negsuc n) e t))

shown_fits : (e : Event) → T (fits (shown e) e)
unfolding fits
shown_fits (pos n) = tt
shown_fits (negsuc n) = eqb_refl n

-- the same, of all sides
pub all_fit_shows : (xs es : List Event) → T (all_fit xs es) → shows es ≡ xs
unfolding all_fit
all_fit_shows [] [] t = refl
all_fit_shows (x ∷ xs) (e ∷ es) t =
    let b = and_both (fits x e) (all_fit xs es) t in
    ap₂ {C = List Event} (λ y ys. y ∷ ys) (fit_shows x e b.0) (all_fit_shows xs es b.1)
all_fit_shows [] (e ∷ es) t = absurd t
all_fit_shows (x ∷ xs) [] t = absurd t

shows_fit : (es : List Event) → T (all_fit (shows es) es)
unfolding all_fit
shows_fit [] = tt
shows_fit (e ∷ es) = both_and (fits (shown e) e) (all_fit (shows es) es) (shown_fits e) (shows_fit es)

pub shows_all_fit : (xs es : List Event) → shows es ≡ xs → T (all_fit xs es)
shows_all_fit xs es p = subst (λ (ys : List Event). T (all_fit ys es)) p (shows_fit es)

-- ---- the transition that is found
-- the sides show xs under the transition with number j
abbrev pub ShowsAt : List Event → List Edge → ℕ → Type 0
ShowsAt xs l j = shows (side_events (get_or l j no_edge)) ≡ xs

-- the first transition under which they do, or there is none
pub data Found (xs : List Event) (l : List Edge) : Type 0 where
  found : (j : ℕ) → j < length l → first_fit xs l ≡ some (get_or l j no_edge) → ShowsAt xs l j → ((k : ℕ) → k < j → ShowsAt xs l k → ⊥) → Found xs l
  none_fits : first_fit xs l ≡ none → ((k : ℕ) → k < length l → ShowsAt xs l k → ⊥) → Found xs l

-- the first transition fits, or the search goes on behind it
find_from : (xs : List Event) (e : Edge) (l : List Edge) → Found xs l → Dec (T (all_fit xs (side_events e))) → Found xs (e ∷ l)
unfolding first_fit
find_from xs e l r (yes t) =
    found 0 (omega arith) (ap (λ (b : Bool). cond b (some e) (first_fit xs l)) (T_true (all_fit xs (side_events e)) t)) (all_fit_shows xs (side_events e) t) (λ k h. absurd (not-suc-le-zero h))
find_from xs e l r (no n) = later r
  where
    skip : first_fit xs (e ∷ l) ≡ first_fit xs l
    skip = ap (λ (b : Bool). cond b (some e) (first_fit xs l)) (T_false (all_fit xs (side_events e)) n)

    -- none before m in l, so none before suc m behind e
    none_before : (m : ℕ) → ((k : ℕ) → k < m → ShowsAt xs l k → ⊥) → (k : ℕ) → k < suc m → ShowsAt xs (e ∷ l) k → ⊥
    none_before m h zero lt p = n (shows_all_fit xs (side_events e) p)
    none_before m h (suc k) lt p = h k (omega arith) p

    later : Found xs l → Found xs (e ∷ l)
    later (found j h p g first) = found (suc j) (omega arith) (skip ∙ p) g (none_before j first)
    later (none_fits p h) = none_fits (skip ∙ p) (none_before (length l) h)

pub find : (xs : List Event) (l : List Edge) → Found xs l
unfolding first_fit
find xs [] = none_fits refl (λ k h. absurd (not-suc-le-zero h))
find xs (e ∷ l) = find_from xs e l (find xs l) (T-dec (all_fit xs (side_events e)))
