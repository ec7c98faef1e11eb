-- `tests::list_right` meets its contract.
use Rattle.std.proofs.Common.{rules}
use mathlib.Core.Path.{◌≡◌, refl, sym, ap, ◌∙◌}
use mathlib.Core.Bool.{Bool, true, false, ◌&&◌, not}
use mathlib.Core.List.{List}
use Prim.Native.Nat.{ℕ, zero, suc, ◌%◌}
use borrow.Author.Tests.{tests, eq-eqb, ne_eqb}
use lib.ListN.{length}
use Rattle.layout.specs.Tables.{every, distinct}
use Rattle.layout.specs.Designs.{design}
use Rattle.ranges.specs.Entries.{entry_bytes, entry_count, entry_at, entry_right, same_state, list_right}
use Rattle.ranges.proofs.EachNumber.{every_from_all}
use Rattle.ranges.proofs.tests.list_right.Goals as goal

-- ---- one entry: it is right, and none before it is for its state
abbrev right : List ℕ → List ℕ → ℕ → Bool
right ds es j = entry_right (design ds) (entry_at es j)

abbrev fresh : List ℕ → ℕ → Bool
fresh es j = every j (λ i. not (same_state (entry_at es i) (entry_at es j)))

-- two tests of each number
and_twice : (a b c d : Bool) → ((a && b) && (c && d)) ≡ ((a && c) && (b && d))
and_twice true true c d = refl
and_twice true false true d = refl
and_twice true false false d = refl
and_twice false b c d = refl

every_both : (p q : ℕ → Bool) (n : ℕ) → (every n p && every n q) ≡ every n (λ k. p k && q k)
unfolding every
every_both p q zero = refl
every_both p q (suc n) = and_twice (every n p) (p n) (every n q) (q n) ∙ ap (λ b. b && (p n && q n)) (every_both p q n)

module _ (ds es : List ℕ) where
  whole_decides : length es % entry_bytes ≡ 0 → list_right ds es ≡ every (entry_count es) (λ j. right ds es j && fresh es j)
  unfolding list_right distinct
  whole_decides w = rw (eq-eqb (length es % entry_bytes) 0 w) (every_both (right ds es) (fresh es) (entry_count es))

  broken_fails : (length es % entry_bytes ≡ 0 → ⊥) → list_right ds es ≡ false
  unfolding list_right
  broken_fails n = rw (ne_eqb (length es % entry_bytes) 0 n)

pub returns-then-list-eq0 : goal.returns-then-list-eq0
returns-then-list-eq0 c =
    let ds = c.args.d.now in
    let es = c.args.list.now in
    every_from_all (λ j. right ds es j && fresh es j) c.count.result _ _ _ c.all.ensures.ran (λ x b q k. search (rules, tests)) ∙ ap (λ n. every n (λ j. right ds es j && fresh es j)) c.count.ensures ∙ sym (whole_decides ds es c.if-list-eq0.true)

pub returns-else-list-eq0 : goal.returns-else-list-eq0
returns-else-list-eq0 c = ne_eqb (length c.args.list.now % entry_bytes) 0 c.if-list-eq0.false ∙ sym (broken_fails c.args.d.now c.args.list.now c.if-list-eq0.false)
