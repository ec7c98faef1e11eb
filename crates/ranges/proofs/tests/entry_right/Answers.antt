-- `tests::entry_right` meets its contract: side, state, what the state does, and the counts.
use mathlib.Core.Path.{◌≡◌, refl, sym, ap, ap₂, ◌∙◌}
use mathlib.Core.Bool.{Bool, true, false, ◌&&◌, ◌||◌}
use mathlib.Core.List.{List}
use Prim.Native.Nat.{ℕ, ◌≤◌, ◌<◌}
use native.Mathlib.Omega.{arith}
use borrow.Author.Tests.{lt-ltb, le-ltb, ltb-true}
use lib.Dec.{eqb, leb, ltb}
use lib.ListN.{length}
use Rattle.model.specs.Sides.{Side, state}
use Rattle.layout.specs.Sizes.{side_count}
use Rattle.layout.specs.declared.states.StateRecord.{StateRecord}
use Rattle.layout.specs.States.{state_of}
use Rattle.layout.specs.Designs.{design, side, stored_state}
use Rattle.layout.proofs.DesignBytes.{stored_state_is}
use Rattle.refusals.proofs.WellFormed.{accepted_counts}
use Rattle.ranges.specs.declared.entries.Entry.{Entry}
use Rattle.ranges.specs.Entries.{most_waits, no_greatest, waits_itself, entry_right}
use Rattle.ranges.proofs.tests.entry_right.Goals as goal
use Rattle.ranges.proofs.tests.entry_right.Goals.{then-i-lt-SIDES, else-i-lt-SIDES, then-k-state_count, else-k-state_count}

-- ---- an entry for state k of side i
module _ (ds : List ℕ) (e : Entry) where
  abbrev named_side : Side
  named_side = side (design ds) e.side

  abbrev counts : Bool
  counts = leb e.least most_waits && (leb e.greatest most_waits || eqb e.greatest no_greatest) && leb e.least e.greatest

  others : (a b c d : Bool) → (a && b && c && d) ≡ (a && (b && c && d))
  others true b c d = refl
  others false b c d = refl

  -- side, state and record as the code has read them, and what it says of the record
  module _ (i k : ℕ) (p : i ≡ e.side) (s : k ≡ e.state) where
    no_side : side_count ≤ i → entry_right (design ds) e ≡ false
    unfolding entry_right
    no_side h = rw (le-ltb e.side side_count (omega arith))

    module _ (n : ℕ) (u : n ≡ length (side (design ds) i)) (h : i < side_count) where
      long : n ≡ length named_side
      long = u ∙ ap (λ i. length (side (design ds) i)) p

      there : e.side < side_count
      there = omega arith

      no_state : ltb k n ≡ false → entry_right (design ds) e ≡ false
      unfolding entry_right
      no_state g = rw (lt-ltb e.side side_count there, ap₂ ltb (sym s) (sym long) ∙ g)

      state_decides : k < n → (q : StateRecord) → q ≡ stored_state ds i k → (b : Bool) → b ≡ waits_itself k (state_of q) → entry_right (design ds) e ≡ (b && counts)
      unfolding entry_right
      state_decides g q r b w =
          let l : e.state < length named_side = omega (arith, long) in
          let told : waits_itself e.state (state named_side e.state) ≡ b =
          sym (w ∙ ap₂ (λ k q. waits_itself k (state_of q)) s (r ∙ ap₂ (stored_state ds) p s) ∙ ap (waits_itself e.state) (stored_state_is ds e.side e.state there l)) in
          rw (lt-ltb e.side side_count there, lt-ltb e.state (length named_side) l, told) (others b (leb e.least most_waits) (leb e.greatest most_waits || eqb e.greatest no_greatest) (leb e.least e.greatest))

pub state_count-requires : goal.state_count-requires
state_count-requires c = ((accepted_counts _ c.requires).whole, c.if-i-lt-SIDES.true)

pub side_state-requires : goal.side_state-requires
side_state-requires c =
    let few = accepted_counts _ c.requires in
    elim c.if-i-lt-SIDES.branch [
      | then-i-lt-SIDES w ↦ (few.whole, w.if-i-lt-SIDES.true, omega (arith, few.few_states c.from-i.result w.if-i-lt-SIDES.true, w.state_count.ensures, ltb-true c.from-k.result w.state_count.result (sym w.value-is ∙ c.if-k-state_count.true)))
      | else-i-lt-SIDES w ↦ absurd (let h = ltb-true c.from-i.result side_count (sym w.value-is ∙ c.if-k-state_count.true) in omega (arith, h, w.if-i-lt-SIDES.false))
    ]

pub returns-then-waits_itself : goal.returns-then-waits_itself
returns-then-waits_itself c =
    elim c.if-k-state_count.branch [
      | then-k-state_count w ↦
          (elim c.if-i-lt-SIDES.branch [
            | then-i-lt-SIDES v ↦
                c.counts_right.ensures
                ∙ sym (state_decides c.args.d.now c.args.e c.from-i.result c.from-k.result c.from-i.ensures c.from-k.ensures v.state_count.result v.state_count.ensures v.if-i-lt-SIDES.true
                (ltb-true c.from-k.result v.state_count.result (sym v.value-is ∙ w.if-k-state_count.true)) w.side_state.result w.side_state.ensures w.waits_itself.result w.waits_itself.ensures
                ∙ ap (λ b. b && counts c.args.d.now c.args.e) (sym w.value-is ∙ c.if-waits_itself.true))
            | else-i-lt-SIDES v ↦ absurd (let h = ltb-true c.from-i.result side_count (sym v.value-is ∙ w.if-k-state_count.true) in omega (arith, h, v.if-i-lt-SIDES.false))
          ])
      | else-k-state_count w ↦ cc (w.value-is, w.if-k-state_count.false)
    ]

pub returns-else-waits_itself : goal.returns-else-waits_itself
returns-else-waits_itself c =
    elim c.if-k-state_count.branch [
      | then-k-state_count w ↦
          (elim c.if-i-lt-SIDES.branch [
            | then-i-lt-SIDES v ↦
                c.if-waits_itself.false
                ∙ sym (state_decides c.args.d.now c.args.e c.from-i.result c.from-k.result c.from-i.ensures c.from-k.ensures v.state_count.result v.state_count.ensures v.if-i-lt-SIDES.true
                (ltb-true c.from-k.result v.state_count.result (sym v.value-is ∙ w.if-k-state_count.true)) w.side_state.result w.side_state.ensures w.waits_itself.result w.waits_itself.ensures
                ∙ ap (λ b. b && counts c.args.d.now c.args.e) (sym w.value-is ∙ c.if-waits_itself.false))
            | else-i-lt-SIDES v ↦ absurd (let h = ltb-true c.from-i.result side_count (sym v.value-is ∙ w.if-k-state_count.true) in omega (arith, h, v.if-i-lt-SIDES.false))
          ])
      | else-k-state_count w ↦
          (elim c.if-i-lt-SIDES.branch [
            | then-i-lt-SIDES v ↦ c.if-waits_itself.false ∙ sym (no_state c.args.d.now c.args.e c.from-i.result c.from-k.result c.from-i.ensures c.from-k.ensures v.state_count.result v.state_count.ensures v.if-i-lt-SIDES.true (sym v.value-is ∙ w.if-k-state_count.false))
            | else-i-lt-SIDES v ↦ c.if-waits_itself.false ∙ sym (no_side c.args.d.now c.args.e c.from-i.result c.from-k.result c.from-i.ensures c.from-k.ensures v.if-i-lt-SIDES.false)
          ])
    ]
