-- Test 11 of a converter record by itself, as the code makes it: place by place.
use mathlib.Core.Path.{◌≡◌, refl, sym, ap, subst, ◌∙◌}
use mathlib.Core.Bool.{Bool, true, not, ◌&&◌}
use mathlib.Core.List.{List, [], ◌∷◌}
use Prim.Native.Nat.{ℕ, ◌≤◌}
use native.Mathlib.Omega.{arith}
use lib.Dec.{T, leb, ltb}
use lib.Pointwise.{pointwise}
use lib.ListN.{get_or}
use Rattle.std.specs.Ordering.{int_eq}
use Rattle.std.proofs.lemmas.Bool.Decides.{same_from_decides, Decides-int_eq}
use Rattle.model.specs.Events.{Event, same_event}
use Rattle.model.specs.Converters.{Edge, edge}
use Rattle.model.specs.Judged.{all, same_list, same_events}
use Rattle.model.proofs.Bools.{T_true}
use Rattle.model.proofs.SameEvent.{same_event_eq, same_event_refl}
use Rattle.layout.specs.declared.records.Record.{Record}
use Rattle.layout.specs.declared.records.Transition.{Transition}
use Rattle.layout.specs.Sizes.{most_states, place_count}
use Rattle.layout.specs.Tables.{every, distinct}
use Rattle.layout.specs.Records.{no_transition, node_of}
use Rattle.layout.specs.Tests.{in_range, node_right}
use Rattle.layout.proofs.ConverterBytes.{names_of, edges_of, edge_of_place}
use Rattle.layout.proofs.Tables.{true_T}
use Rattle.layout.proofs.Nodes.{well_formed}
use Rattle.refusals.proofs.Ranges.{every_cong, every_both}

-- two lists of events are the same, by their test and as the library's `==` tells it
same_is : (x y : Event) → int_eq x y ≡ same_event x y
same_is x y =
    same_from_decides (int_eq x y) (same_event x y) (Decides-int_eq x y)
    (λ e. same_event_eq x y (true_T (same_event x y) e), λ e. T_true (same_event x y) (subst (λ (z : Event). T (same_event x z)) e (same_event_refl x)))

pub events_same : (es fs : List Event) → pointwise int_eq es fs ≡ same_events es fs
unfolding same_list
events_same [] [] = refl
events_same [] (y ∷ ys) = refl
events_same (x ∷ xs) [] = refl
events_same (x ∷ xs) (y ∷ ys) = ap (λ b. b && pointwise int_eq xs ys) (same_is x y) ∙ ap (λ b. same_event x y && b) (events_same xs ys)

-- a right record has at most eight transitions
pub few_places : (n : ℕ) (r : Record) → node_right n (node_of r) ≡ true → r.count ≤ place_count
few_places n r e = omega (arith, edges_of r, (well_formed n (node_of r) e).at_most_eight)

module _ (n : ℕ) (r : Record) where
  abbrev c : ℕ
  c = r.count

  abbrev place : ℕ → Transition
  place k = get_or r.places k no_transition

  -- place k by itself, and beside those before it
  abbrev pub linked : ℕ → Bool
  linked k = all in_range (place k).events && ltb (place k).next n

  abbrev pub fresh : ℕ → Bool
  fresh k = every k (λ j. not (same_events (place j).events (place k).events))

  pub node_by_places : node_right n (node_of r) ≡ (all (λ s. ltb s most_states) r.names && (leb 1 c && leb c place_count) && every c (λ k. linked k && fresh k))
  unfolding node_right distinct
  node_by_places =
      let d = node_of r in
      let x = all (λ s. ltb s most_states) r.names in
      let ranged : ℕ → Bool = λ k. all in_range (place k).events in
      let inside : ℕ → Bool = λ k. ltb (place k).next n in
      let a : every c (λ k. all in_range (edge d k).events) ≡ every c ranged =
      every_cong (λ k. all in_range (edge d k).events) ranged c (λ k h. ap (λ (t : Edge). all in_range t.events) (edge_of_place r k h)) in
      let t : every c (λ k. ltb (edge d k).next n) ≡ every c inside =
      every_cong (λ k. ltb (edge d k).next n) inside c (λ k h. ap (λ (t : Edge). ltb t.next n) (edge_of_place r k h)) in
      let f : every c (λ k. every k (λ j. not (same_events (edge d j).events (edge d k).events))) ≡ every c fresh =
      every_cong (λ k. every k (λ j. not (same_events (edge d j).events (edge d k).events))) fresh c (λ k h.
      every_cong (λ j. not (same_events (edge d j).events (edge d k).events)) (λ j. not (same_events (place j).events (place k).events)) k (λ j l.
      ap (λ (t : Edge). not (same_events t.events (edge d k).events)) (edge_of_place r j (omega arith)) ∙ ap (λ (t : Edge). not (same_events (place j).events t.events)) (edge_of_place r k h))) in
      rw (edges_of r, names_of r, a, f, t)
      (regrouped x (leb 1 c) (leb c place_count) (every c ranged) (every c fresh) (every c inside)
      ∙ sym (ap (λ b. x && (leb 1 c && leb c place_count) && b) (every_both linked fresh c ∙ ap (λ b. b && every c fresh) (every_both ranged inside c))))
    where
      regrouped : (x a b r d l : Bool) → (x && a && b && r && d && l) ≡ (x && (a && b) && (r && l && d))
      regrouped x a b r d l = grind arith
