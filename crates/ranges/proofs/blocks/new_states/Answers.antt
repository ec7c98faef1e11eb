-- `blocks::new_states` meets its contract. The invariant: the n states that are put are those of the side with the first j entries.
use mathlib.Core.Path.{◌≡◌, sym, ap, ap₂, ◌∙◌}
use mathlib.Core.Bool.{true}
use mathlib.Core.List.{List, flatten}
use Prim.Native.Nat.{ℕ, ◌+◌, ◌*◌, ◌≤◌, ◌<◌}
use native.Mathlib.Omega.{arith}
use lib.ListN.{length}
use Rattle.model.specs.Sides.{State, state}
use Rattle.model.specs.Ranges.{last_count, counted, counts, ranged}
use Rattle.model.proofs.RangedSides.{length_replaced, length_ranged}
use Rattle.layout.specs.declared.states.StateRecord.{StateRecord}
use Rattle.layout.specs.Tables.{table, table_from}
use Rattle.layout.specs.Sizes.{side_count, state_bytes, most_states}
use Rattle.layout.specs.Bytes.{put}
use Rattle.layout.specs.States.{state_of, state_to}
use Rattle.layout.specs.Designs.{design, side, stored_state}
use Rattle.layout.proofs.DesignBytes.{stored_state_is}
use Rattle.layout.proofs.Put.{put_again}
use Rattle.refusals.specs.Refusals.{design_refusal}
use Rattle.refusals.proofs.WellFormed.{accepted_counts, state_small}
use Rattle.ranges.specs.declared.entries.Entry.{Entry}
use Rattle.ranges.specs.Entries.{entry_count, entry_at, range_of, ranges_to, list_right, sides_fit, side_ranges, new_side}
use Rattle.ranges.specs.Ranges.{states_to}
use Rattle.ranges.proofs.EntryLists.{named_next, not_named}
use Rattle.ranges.proofs.StatesPut.{length_states, replaced_put}
use Rattle.ranges.proofs.NewSides.{few_with}
use Rattle.ranges.proofs.OneEntry.{side_with, named, named_yet, still, room_for}
use Rattle.ranges.proofs.blocks.new_states.Goals as goal
use Rattle.ranges.proofs.blocks.new_states.Goals.{At-loop-j, In-loop-j, then-from-i, else-from-i}

pub state_count-n-requires : goal.state_count-n-requires
state_count-n-requires c = ((accepted_counts _ c.requires.0).whole, c.requires.3)

pub loop-j-init : goal.loop-j-init
unfolding ranged ranges_to table table_from flatten
loop-j-init c =
    let S = side (design c.args.d.now) c.args.i in
    let few = (accepted_counts _ c.requires.0).few_states c.args.i c.requires.3 in
    let put_old = c.old_states.ensures in
    let b = c.args.s.now in (
      c.state_count-n.ensures,
      put_old ∙ sym (ap (λ l. put l 0 (states_to S)) put_old ∙ put_again (states_to S) (states_to S) b (omega arith) (omega (arith, length_states S, c.requires.4))),
    )

-- all along there are as many bytes as were lent
long : (c : At-loop-j) → length c.loop-j.s ≡ length c.args.s.now
long c = c.loop-j.auto.s ∙ c.old_states.auto.s

in_list : (c : In-loop-j) → c.loop-j.j < entry_count c.args.list.now
in_list c = omega (arith, c.count-j-end.ensures)

-- an entry for the side: its state is there
module _ (ds es : List ℕ) (i j : ℕ) (e : Entry) (read : e ≡ entry_at es j) (right : list_right ds es ≡ true) (listed : j < entry_count es) (own : e.side ≡ i) where
  -- what is so of each right entry for a side is so of this one
  of_entry : {P : List ℕ → List ℕ → ℕ → ℕ → Entry → Type 0}
      → ((D L : List ℕ) (s k : ℕ) (x : Entry) → x ≡ entry_at L k → list_right D L ≡ true → k < entry_count L → x.side ≡ s → P D L s k x)
      → P ds es i j e
  of_entry law = law ds es i j e read right listed own

  own_there : e.state < length (side (design ds) i)
  own_there = of_entry named

  own_few : design_refusal ds ≡ 0 → i < side_count → e.state < most_states
  own_few r h = omega (arith, own_there, (accepted_counts ds r).few_states i h)

  own_yet : (n : ℕ) → n ≡ length (side_with ds es i j) → e.state < n
  own_yet n m = omega (arith, m, of_entry named_yet)

  own_room : (n : ℕ) → n ≡ length (side_with ds es i j) → sides_fit ds es ≡ true → i < side_count → n + last_count (range_of e) ≤ most_states
  own_room n m f h = omega (arith, m, of_entry room_for f h)

  -- the record that is read is that state
  is_state : (q : StateRecord) → q ≡ stored_state ds i e.state → i < side_count → state_of q ≡ state (side (design ds) i) e.state
  is_state q u h = ap state_of u ∙ stored_state_is ds i e.state h own_there

pub side_state-requires : goal.side_state-requires
side_state-requires c =
    let a = c.args in
    let r = c.read_entry-e in
    let l = in_list (goal.at.side_state-requires c).In-loop-j in
    ((accepted_counts _ c.requires.0).whole, c.requires.3, omega (arith, c.from-then-from-i.ensures, own_few a.d.now a.list.now a.i c.loop-j.j r.result r.ensures c.requires.1 l (sym c.from.ensures ∙ c.if-from-i.true) c.requires.0 c.requires.3))

pub replace-requires : goal.replace-requires
replace-requires c =
    let d = c.args.d.now in
    let es = c.args.list.now in
    let i = c.args.i in
    let h = c.loop-j in
    let r = c.read_entry-e in
    let l = in_list (goal.at.replace-requires c).In-loop-j in
    let few = state_small d c.requires.0 i r.result.state c.requires.3 (own_there d es i h.j r.result r.ensures c.requires.1 l (sym c.from.ensures ∙ c.if-from-i.true)) in (
      omega (arith, long (goal.at.replace-requires c).At-loop-j, c.requires.4),
      omega (arith, ap (λ (q : StateRecord). q.count) (c.side_state.ensures ∙ ap (stored_state d i) c.from-then-from-i.ensures), few),
      own_yet d es i h.j r.result r.ensures c.requires.1 l (sym c.from.ensures ∙ c.if-from-i.true) h.n h.invariant.0,
      own_room d es i h.j r.result r.ensures c.requires.1 l (sym c.from.ensures ∙ c.if-from-i.true) h.n h.invariant.0 c.requires.2 c.requires.3,
    )

pub overflow_add-n : goal.overflow_add-n
overflow_add-n c =
    let a = c.args in
    let h = c.loop-j in
    let r = c.read_entry-e in
    let l = in_list (goal.at.overflow_add-n c).In-loop-j in
    omega (arith, own_room a.d.now a.list.now a.i h.j r.result r.ensures c.requires.1 l (sym c.from.ensures ∙ c.if-from-i.true) h.n h.invariant.0 c.requires.2 c.requires.3, c.last_count-n.ensures)

pub loop-j-preserved : goal.loop-j-preserved
unfolding range_of
loop-j-preserved c =
    let d = c.args.d.now in
    let es = c.args.list.now in
    let i = c.args.i in
    let h = c.loop-j in
    let e = c.read_entry-e.result in
    let read = c.read_entry-e.ensures in
    let R = side_with d es i h.j in
    let s₀ = c.old_states.new.s in
    let listed = in_list (goal.at.loop-j-preserved c).In-loop-j in
    let lasts = long (goal.at.loop-j-preserved c).At-loop-j in
    elim c.if-from-i.branch [
      | then-from-i w ↦
          (let own = sym c.from.ensures ∙ w.if-from-i.true in
          let r = range_of e in
          let replaces = named_next (side (design d) i) es i h.j e read own in
          let q = is_state d es i h.j e read c.requires.1 listed own w.side_state.result (w.side_state.ensures ∙ ap (stored_state d i) w.from-then-from-i.ensures) c.requires.3 ∙ sym (still d es i h.j e read c.requires.1 listed own) in
          let put_counts : List ℕ → State → ℕ → List ℕ =
          λ b x n. put (put b (state_bytes * e.state) (state_to (counted r n x 0))) (state_bytes * n) (states_to (counts r n x 1 (last_count r))) in
          let there = named_yet d es i h.j e read c.requires.1 listed own in
          let room = room_for d es i h.j e read c.requires.1 listed own c.requires.2 c.requires.3 in (
            w.n-is ∙ ap₂ ◌+◌ h.invariant.0 w.last_count-n.ensures ∙ sym (ap length replaces ∙ length_replaced R r),
            w.s-is ∙ w.replace.ensures
                ∙ ap₂ (λ b x. put_counts b x h.n) h.invariant.1 q
                ∙ ap (put_counts (put s₀ 0 (states_to R)) (state R e.state)) h.invariant.0
                ∙ replaced_put s₀ R r there (omega (arith, room, h.auto.s, lasts, c.requires.4))
                ∙ ap (λ S. put s₀ 0 (states_to S)) (sym replaces),
          ))
      | else-from-i w ↦
          (let same = not_named (side (design d) i) es i h.j e read (λ x. w.if-from-i.false (c.from.ensures ∙ x)) in
          (w.n-is ∙ h.invariant.0 ∙ ap length (sym same), w.s-is ∙ h.invariant.1 ∙ ap (λ S. put s₀ 0 (states_to S)) (sym same)))
    ]

pub returns : goal.returns
returns c =
    let old = side (design c.args.d.now) c.args.i in
    let new = new_side c.args.d.now c.args.list.now c.args.i in
    let all : c.loop-j.j ≡ entry_count c.args.list.now = omega (arith, c.count-j-end.ensures) in
    let done = ap (side_with c.args.d.now c.args.list.now c.args.i) all in
    let b = c.args.s.now in
    let few = few_with c.args.d.now c.args.list.now c.requires.2 c.args.i c.requires.3 in (
      c.loop-j.invariant.0 ∙ ap length done,
      c.loop-j.invariant.1
          ∙ ap₂ (λ x S. put x 0 (states_to S)) c.old_states.ensures done
          ∙ put_again (states_to old) (states_to new) b
          (omega (arith, length_states old, length_states new, length_ranged old (side_ranges c.args.list.now c.args.i))) (omega (arith, length_states new, few, c.requires.4)),
    )
