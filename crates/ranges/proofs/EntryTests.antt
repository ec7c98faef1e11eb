-- The tests of one entry say what the model's predicates say.
use mathlib.Core.Path.{◌≡◌, subst}
use mathlib.Core.Bool.{Bool, true, false, ◌&&◌, ◌||◌, cond}
use mathlib.Core.Logic.{◌⊎◌, inl, inr, ⊎_elim, ◌↔◌}
use Prim.Native.Nat.{ℕ, ◌≤◌, ◌<◌}
use native.Mathlib.Omega.{arith}
use borrow.Author.Tests.{leb-true, ltb-true, eq-eqb, ne_eqb, le-leb, lt-ltb}
use lib.Dec.{T, eqb, leb, ltb, eqb→eq}
use lib.ListN.{length}
use Rattle.model.specs.Sides.{State, Side, state}
use Rattle.model.specs.Ranges.{up_to, none, WaitsItself, Within, Fits}
use Rattle.model.specs.Designs.{Design}
use Rattle.model.proofs.Bools.{T_true, and_both, both_and, or_either, or_left, or_right}
use Rattle.model.proofs.SameEvent.{sent_and_tick}
use Rattle.layout.specs.Sizes.{side_count}
use Rattle.layout.specs.Tests.{sends_or_waits}
use Rattle.layout.specs.Designs.{side}
use Rattle.layout.proofs.Tables.{true_T, and_left, and_right}
use Rattle.refusals.proofs.StateTests.{two_in_order, order_of_two, forms_sends}
use Rattle.ranges.specs.declared.entries.Entry.{Entry}
use Rattle.ranges.specs.Entries.{most_waits, no_greatest, range_of, sends_or_returns, waits_itself, entry_right}

-- ---- the state
waits_forms : (s : ℕ) (q : State) → T (waits_itself s q) → WaitsItself s q
unfolding waits_itself
waits_forms s q t =
    let p = two_in_order (sends_or_returns s) q t in
    let y = and_both (sends_or_waits p.0 p.1) (eqb p.1.target s) p.3 in
    let r = sent_and_tick p.0.event p.1.event y.0 in
    ((p.0, p.1, p.2, r.0, r.1), eqb→eq p.1.target s y.1)

forms_waits : (s : ℕ) (q : State) → WaitsItself s q → T (waits_itself s q)
unfolding waits_itself
forms_waits s q h =
    let m = h.0.0 in
    let w = h.0.1 in
    order_of_two (sends_or_returns s) q
    (m, w, h.0.2, both_and (sends_or_waits m w) (eqb w.target s) (forms_sends m w h.0.3 h.0.4) (true_T (eqb w.target s) (eq-eqb w.target s h.1)))

-- it is delayed with its tick to itself
pub waits_formed : (s : ℕ) (q : State) → T (waits_itself s q) ↔ WaitsItself s q
waits_formed s q = (waits_forms s q, forms_waits s q)

-- ---- the counts
-- the least is not above a greatest
within_range : (e : Entry) → e.least ≤ e.greatest → Within (range_of e)
unfolding range_of
within_range e h = by (eqb e.greatest no_greatest)
  where
    by : (b : Bool) → Within (record { state = e.state; least = e.least; greatest = cond b none (up_to e.greatest) })
    by true = tt
    by false = h

-- with no greatest, or one up to 15, a least within such a range is not above it
range_within : (e : Entry) → Within (range_of e) → e.least ≤ most_waits → (e.greatest ≤ most_waits) ⊎ (e.greatest ≡ no_greatest) → e.least ≤ e.greatest
unfolding range_of
range_within e w l (inr n) = omega arith
range_within e w l (inl g) =
    subst (λ (b : Bool). Within (record { state = e.state; least = e.least; greatest = cond b none (up_to e.greatest) }))
    (ne_eqb e.greatest no_greatest (λ z. omega arith)) w

-- ---- an entry is right exactly where its side is there, its range fits the side, and its counts are within their limits
module _ (D : Design) (e : Entry) where
  abbrev S : Side
  S = side D e.side

  abbrev InLimits : Type 0
  InLimits = (e.side < side_count) × (e.least ≤ most_waits) × ((e.greatest ≤ most_waits) ⊎ (e.greatest ≡ no_greatest))

  right_forms : entry_right D e ≡ true → InLimits × Fits S (range_of e)
  unfolding entry_right range_of
  right_forms t =
      let a = ltb e.side side_count in
      let b = ltb e.state (length S) in
      let c = waits_itself e.state (state S e.state) in
      let d = leb e.least most_waits in
      let f = leb e.greatest most_waits || eqb e.greatest no_greatest in
      let g = leb e.least e.greatest in
      let u = and_left (a && b && c && d && f) g t in
      let v = and_left (a && b && c && d) f u in
      let w = and_left (a && b && c) d v in
      let x = and_left (a && b) c w in (
        (
          ltb-true e.side side_count (and_left a b x),
          leb-true e.least most_waits (and_right (a && b && c) d v),
          ⊎_elim
              (λ (y : T (leb e.greatest most_waits)). inl (leb-true e.greatest most_waits (T_true (leb e.greatest most_waits) y)))
              (λ (y : T (eqb e.greatest no_greatest)). inr (eqb→eq e.greatest no_greatest y))
              (or_either (leb e.greatest most_waits) (eqb e.greatest no_greatest) (true_T f (and_right (a && b && c && d) f u))),
        ),
        record {
          there = ltb-true e.state (length S) (and_right a b x);
          waits = waits_forms e.state (state S e.state) (true_T c (and_right (a && b) c w));
          within = within_range e (leb-true e.least e.greatest (and_right (a && b && c && d && f) g t));
        },
      )

  fits_right : InLimits → Fits S (range_of e) → entry_right D e ≡ true
  unfolding entry_right range_of
  fits_right l f =
      let either : (leb e.greatest most_waits || eqb e.greatest no_greatest) ≡ true =
      T_true (leb e.greatest most_waits || eqb e.greatest no_greatest)
      (⊎_elim
      (λ (x : e.greatest ≤ most_waits). or_left (leb e.greatest most_waits) (eqb e.greatest no_greatest) (true_T _ (le-leb e.greatest most_waits x)))
      (λ (x : e.greatest ≡ no_greatest). or_right (leb e.greatest most_waits) (eqb e.greatest no_greatest) (true_T _ (eq-eqb e.greatest no_greatest x)))
      l.2) in
      rw (
        lt-ltb e.side side_count l.0,
        lt-ltb e.state (length S) f.there,
        T_true (waits_itself e.state (state S e.state)) ((waits_formed e.state (state S e.state)).1 f.waits),
        le-leb e.least most_waits l.1,
        either,
        le-leb e.least e.greatest (range_within e f.within l.1 l.2),
      )

  pub entry_formed : (entry_right D e ≡ true) ↔ (InLimits × Fits S (range_of e))
  entry_formed = (right_forms, λ w. fits_right w.0 w.1)

  pub entry_fits : entry_right D e ≡ true → Fits (side D e.side) (range_of e)
  entry_fits t = (right_forms t).1
