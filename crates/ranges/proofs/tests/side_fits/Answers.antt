-- `tests::side_fits` meets its contract. The invariant: n is the number of states that the side has with the first j entries, and it is at most 16.
use mathlib.Core.Path.{◌≡◌, sym, ap, ◌∙◌}
use mathlib.Core.List.{List}
use Prim.Native.Nat.{ℕ, ◌+◌}
use native.Mathlib.Omega.{arith}
use borrow.Author.Tests.{lt-leb}
use lib.ListN.{length}
use Rattle.model.specs.Ranges.{last_count}
use Rattle.layout.specs.Sizes.{most_states}
use Rattle.layout.specs.Designs.{design, side}
use Rattle.refusals.proofs.WellFormed.{accepted_counts}
use Rattle.ranges.specs.declared.entries.Entry.{Entry}
use Rattle.ranges.specs.Entries.{entry_count, entry_at, range_of}
use Rattle.ranges.proofs.EntryRanges.{last_small}
use Rattle.ranges.proofs.EntryLists.{with_entries, with_none, count_next, not_named, count_grows}
use Rattle.ranges.proofs.tests.side_fits.Goals as goal
use Rattle.ranges.proofs.tests.side_fits.Goals.{then-from-i+else-n-gt-MOST_STATES, else-from-i}

pub state_count-n-requires : goal.state_count-n-requires
state_count-n-requires c = ((accepted_counts _ c.requires.0).whole, c.requires.1)

pub loop-j-init : goal.loop-j-init
loop-j-init c =
    let a = c.args in
    let few = (accepted_counts _ c.requires.0).few_states a.i c.requires.1 in
    let n = c.state_count-n.ensures in
    (omega arith, n ∙ sym (ap length (with_none (side (design a.d.now) a.i) a.list.now a.i)))

-- how many states the side has with the first k entries
abbrev states : List ℕ → List ℕ → ℕ → ℕ → ℕ
states ds es i k = length (with_entries (side (design ds) i) es i k)

-- with entry j, where it is for the side
more : (ds es : List ℕ) (i j n last : ℕ) (e : Entry) → e ≡ entry_at es j → e.side ≡ i → n ≡ states ds es i j → last ≡ last_count (range_of e)
    → states ds es i (j + 1) ≡ n + last
more ds es i j n last e read s before l = omega (arith, before, l, count_next (side (design ds) i) es i j e read s)

pub overflow_add-n : goal.overflow_add-n
overflow_add-n c = omega (arith, last_small c.read_entry-e.result (omega arith) (omega arith), c.last_count-n.ensures)

pub returns-then-n-gt-MOST_STATES : goal.returns-then-n-gt-MOST_STATES
returns-then-n-gt-MOST_STATES c =
    let d = c.args.d.now in
    let es = c.args.list.now in
    let i = c.args.i in
    let l = c.loop-j in
    let all = entry_count es in
    let total = c.count-j-end.ensures in
    let m = more d es i l.j l.n c.last_count-n.result c.read_entry-e.result c.read_entry-e.ensures (sym c.from.ensures ∙ c.if-from-i.true) l.invariant.1 c.last_count-n.ensures in
    sym (lt-leb (states d es i all) most_states (omega (arith, m, count_grows (side (design d) i) es i (l.j + 1) all (omega arith))))

pub loop-j-preserved : goal.loop-j-preserved
loop-j-preserved c =
    let d = c.args.d.now in
    let es = c.args.list.now in
    let i = c.args.i in
    let l = c.loop-j in
    let entry = c.read_entry-e in
    elim c.if-from-i.branch [
      | then-from-i+else-n-gt-MOST_STATES w ↦
          (omega (arith, w.n-is, w.if-n-gt-MOST_STATES.false), w.n-is ∙ sym (more d es i l.j l.n w.last_count-n.result entry.result entry.ensures (sym c.from.ensures ∙ w.if-from-i.true) l.invariant.1 w.last_count-n.ensures))
      | else-from-i w ↦
          (omega (arith, w.n-is), w.n-is ∙ l.invariant.1 ∙ sym (ap length (not_named (side (design d) i) es i l.j entry.result entry.ensures (λ e. w.if-from-i.false (c.from.ensures ∙ e)))))
    ]
