-- `blocks::replace` meets its contract. The invariant: counts 1 to k are put behind the n states.
use mathlib.Core.Path.{◌≡◌, sym, ap, ap₂, ◌∙◌}
use mathlib.Core.List.{[], ◌∷◌, ◌++◌, flatten}
use Prim.Native.Nat.{◌+◌, ◌*◌}
use native.Mathlib.Omega.{arith}
use Rattle.model.specs.Ranges.{counted, counts}
use Rattle.model.proofs.RangedSides.{length_counts, counts_more}
use Rattle.layout.specs.Sizes.{state_bytes}
use Rattle.layout.specs.Bytes.{put}
use Rattle.layout.specs.States.{state_of, state_to}
use Rattle.layout.proofs.Put.{put_nil}
use Rattle.ranges.specs.Entries.{range_of}
use Rattle.ranges.specs.Ranges.{states_to}
use Rattle.ranges.proofs.StatesPut.{states_more}
use Rattle.ranges.proofs.blocks.replace.Goals as goal

pub loop-k-init : goal.loop-k-init
unfolding states_to counts flatten
loop-k-init c =
    sym (put_nil c.write_state.new.s (state_bytes * c.args.n) (omega (arith, c.write_state.auto.s, c.requires.0, c.requires.3)))

pub loop-k-preserved : goal.loop-k-preserved
loop-k-preserved c =
    let l = c.loop-k in
    let a = c.args in
    let s₀ = c.write_state.new.s in
    let r = range_of a.e in
    let done = counts r a.n (state_of a.q) 1 l.k in
    let next = counted r a.n (state_of a.q) (l.k + 1) in
    let at : state_bytes * (a.n + l.k) ≡ state_bytes * a.n + state_bytes * l.k = omega arith in
    let one : 1 + l.k ≡ l.k + 1 = omega arith in
    c.write_state-in-loop-k.ensures
    ∙ ap₂ (λ b q. put b (state_bytes * (a.n + l.k)) (state_to q)) l.invariant c.counted-in-loop-k.ensures.0
    ∙ ap (λ i. put (put s₀ (state_bytes * a.n) (states_to done)) i (state_to next)) at
    ∙ states_more s₀ (state_bytes * a.n) l.k done next (length_counts r a.n (state_of a.q) 1 l.k) (omega arith)
    ∙ ap (λ S. put s₀ (state_bytes * a.n) (states_to S)) (sym (counts_more r a.n (state_of a.q) 1 l.k ∙ ap (λ i. done ++ (counted r a.n (state_of a.q) i ∷ [])) one))
