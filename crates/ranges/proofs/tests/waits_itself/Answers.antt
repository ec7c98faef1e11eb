-- `tests::waits_itself` meets its contract: of two transitions, in either order.
use mathlib.Core.Path.{◌≡◌, sym, ap, ◌∙◌}
use mathlib.Core.Bool.{false, ◌||◌}
use Prim.Native.Nat.{ℕ}
use borrow.Author.Tests.{eq-eqb, ne_eqb}
use Rattle.layout.specs.States.{state_of}
use Rattle.layout.specs.declared.states.StateRecord.{StateRecord}
use Rattle.layout.proofs.RecordMoves.{moves_length}
use Rattle.refusals.proofs.StateRecords.{in_order, turned_round, by_places}
use Rattle.ranges.specs.Entries.{sends_or_returns, waits_itself}
use Rattle.ranges.proofs.tests.waits_itself.Goals as goal

module _ (k : ℕ) (q : StateRecord) where
  other_fails : (q.count ≡ 2 → ⊥) → waits_itself k (state_of q) ≡ false
  unfolding waits_itself
  other_fails n = rw (moves_length q, ne_eqb q.count 2 n)

  two_decides : q.count ≡ 2 → waits_itself k (state_of q) ≡ (in_order (sends_or_returns k) q || turned_round (sends_or_returns k) q)
  unfolding waits_itself
  two_decides t = rw (moves_length q, eq-eqb q.count 2 t) (by_places (sends_or_returns k) q t)

pub returns-then-sends_or_returns : goal.returns-then-sends_or_returns
returns-then-sends_or_returns c =
    let k = c.args.k in
    c.if-sends_or_returns.true ∙ sym (two_decides k c.args.q c.if-q-eq2.true ∙ ap (λ x. x || turned_round (sends_or_returns k) c.args.q) (sym c.sends_or_returns.ensures ∙ c.if-sends_or_returns.true))

pub returns-else-sends_or_returns : goal.returns-else-sends_or_returns
returns-else-sends_or_returns c =
    let k = c.args.k in
    c.sends_or_returns-else-sends_or_returns.ensures ∙ sym (two_decides k c.args.q c.if-q-eq2.true ∙ ap (λ x. x || turned_round (sends_or_returns k) c.args.q) (sym c.sends_or_returns.ensures ∙ c.if-sends_or_returns.false))

pub returns-else-q-eq2 : goal.returns-else-q-eq2
returns-else-q-eq2 c = ne_eqb c.args.q.count 2 c.if-q-eq2.false ∙ sym (other_fails c.args.k c.args.q c.if-q-eq2.false)
