-- The readers meet their contracts, all in one: each by its own answers, at measures that fall with every call.
use borrow.Author.Rules.{rules}
use mathlib.Core.Path.{◌≡◌, refl, sym, ap, subst, ◌∙◌}
use Prim.Native.Nat.{ℕ, ◌-◌}
use native.Mathlib.Omega.{arith}
use Rattle.tokens.specs.declared.Token.TheVariants.{Path, Open}
use Rattle.typed.specs.Grammar.{closest, implication}
use Rattle.rules.specs.declared.parts.Grade.{Grade}
use Rattle.rules.specs.declared.parts.Part.{Part}
use Rattle.rules.specs.Grades.{worse}
use Rattle.rules.specs.Reading.{Begun, Read, Nothing, Stands}
use Rattle.rules.specs.Chains.{whole, inner, kind_of}
use Rattle.rules.specs.Joins.{Joins}
use Rattle.rules.specs.declared.readers.Connective.{Connective}
use Rattle.rules.specs.declared.records.Store.{Store}
use Rattle.rules.proofs.readers.+reading.Invariants.{Chaining, Linking}
use Rattle.std.specs.Prelude.{Option, Some, None, List, drop}
use Rattle.rules.proofs.Graded.{max_worse}
use Rattle.rules.proofs.Places.{stands}
use Rattle.rules.proofs.Begun.{at_first}
use Rattle.rules.proofs.Taken.{NegatedIf, negated_so, negated_not, read_to_end}
use Rattle.rules.proofs.Leaves.{name_read, true_read, false_read}
use Rattle.rules.proofs.Enclosed.{begins_behind, begins_after, some_records, few_records, bracket_open, bracket_taken, square_missing, until_missing, until_empty, square_open, until_taken}
use Rattle.rules.proofs.Chained.{right_of, joined_by, chain_of, chain_joined, chain_broken, chain_none, chain_ended}
use Rattle.rules.proofs.Arrow.{arrow_begun, first_of, as_last}
use Rattle.rules.proofs.readers.+reading.Goals as goal
use Rattle.rules.proofs.readers.+reading.Goals.{read_chain-in-And, read_chain-in-Or, read_chain-in-Some, read_chain-in-None, read_chain-In_ok-right, read_chain-In_err-right, read_chain-After-sign, read_closest-then-begun, read_closest-else-begun, read_bracketed-After-scan-open, read_bracketed-In_ok-part, read_closest-After-read_prefixes-begun, read_implication-In_ok-part, read_until-After-scan-path, read_until-In_ok-left, read_until-In_ok-right}

-- ---- read_atom: a name or a constant is read here
pub read_atom-returns-in-Name : goal.read_atom-returns-in-Name
read_atom-returns-in-Name t c = name_read c.scan-found.ensures (search rules) c.in-Name.is c.leaf.ensures

pub read_atom-returns-in-True : goal.read_atom-returns-in-True
read_atom-returns-in-True t c = true_read c.scan-found.ensures c.in-True.is c.leaf-in-True.ensures

pub read_atom-returns-in-False : goal.read_atom-returns-in-False
read_atom-returns-in-False t c = false_read c.scan-found.ensures c.in-False.is c.leaf-in-False.ensures

-- ---- read_bracketed: behind the open bracket an implication is read, and behind that the bracket has to be closed
-- the open bracket
bracket : {t : ℕ} → (c : read_bracketed-After-scan-open t) → Stands c.args.text.now c.args.at Open c.scan-open.result.next
bracket c =
    let a = c.args in
    stands a.text.now a.at c.scan-open.result Open (λ z. cc) c.scan-open.ensures (c.scan-open.ensures.found.token ∙ c.requires.1)

-- a part was read behind it
inner_part : {t : ℕ} → (c : read_bracketed-In_ok-part t) → let a = c.args in
    Read a.text.now implication (a.room - 1) c.scan-open.result.next a.store.now c.in_ok-part.part c.read_implication.new.store
inner_part c = rw (← c.in_ok-inside.ensures.1) c.in_ok-part.ensures

pub read_bracketed-returns-in_err-next : goal.read_bracketed-returns-in_err-next
read_bracketed-returns-in_err-next t c =
    let at = goal.at.read_bracketed-returns-in_err-next t c in
    let read = inner_part at.In_ok-part in
    rw c.from_residual-in_err-next.ensures (bracket_open (bracket at.After-scan-open) read.takes read.ends c.in_err-next.ensures)

pub read_bracketed-returns : goal.read_bracketed-returns
read_bracketed-returns t c =
    let at = goal.at.read_bracketed-returns t c in
    let read = inner_part at.In_ok-part in
    record {
      takes = bracket_taken (bracket at.After-scan-open) read.takes (λ z. omega (arith, z, c.in_ok-inside.ensures.0)) c.in_ok-next.ensures;
      ends = tt;
      count = read.count;
      height = read.height;
    }

-- ---- read_closest: prefixes, what they stand before, and the records that they wait to make
-- the part is begun
prefixed : {t : ℕ} → (c : read_closest-After-read_prefixes-begun t) → let s = c.args.store.now in let p = c.read_prefixes-begun.result in let s' = c.read_prefixes-begun.new.store in
    Begun c.args.text.now closest c.args.room c.args.at s.height s.count s.records s.pending p.next s'.height s'.count p.grade p.negations p.odd s'.records s'.pending
prefixed c = c.read_prefixes-begun.ensures.begun c.args.room

pub read_closest-read_atom-requires : goal.read_closest-read_atom-requires
read_closest-read_atom-requires t c =
    let b = prefixed (goal.at.read_closest-read_atom-requires t c).After-read_prefixes-begun in
    (omega (arith, c.decreases), (record { inside = b.inside; slim = omega (arith, b.slim, c.requires.slim) }, c.read_prefixes-begun.ensures.stopped))

-- nothing stands behind the prefixes
pub read_closest-returns-in_err-part : goal.read_closest-returns-in_err-part
read_closest-returns-in_err-part t c =
    rw c.from_residual.ensures
    (λ f s x. let w = (prefixed (goal.at.read_closest-returns-in_err-part t c).After-read_prefixes-begun).only f s x in c.in_err-part.ensures w.0 s w.1)

pub read_closest-unwind-requires : goal.read_closest-unwind-requires
read_closest-unwind-requires t c =
    let at = goal.at.read_closest-unwind-requires t c in
    let x = c.read_prefixes-begun in
    let n : NegatedIf x.result.odd x.new.store.count c.read_atom.new.store c.if-begun.store =
    elim c.if-begun.branch [
      | read_closest-then-begun w ↦ rw w.store-is (negated_so w.if-begun.true w.negate.ensures)
      | read_closest-else-begun w ↦ rw w.store-is (negated_not w.if-begun.false)
    ] in
    let b = prefixed at.After-read_prefixes-begun in
    let p = c.in_ok-part.ensures in
    let q = p.takes in (
      omega (arith, n.counted, p.count, some_records q),
      omega (arith, n.height, p.height, b.above),
      omega (arith, n.counted, n.height, p.count, p.height, b.slim, q.slim, q.inside, c.requires.slim),
    )

pub read_closest-returns : goal.read_closest-returns
read_closest-returns t c =
    let at = goal.at.read_closest-returns t c in
    let x = c.read_prefixes-begun in
    let n : NegatedIf x.result.odd x.new.store.count c.read_atom.new.store c.if-begun.store =
    elim c.if-begun.branch [
      | read_closest-then-begun w ↦ rw w.store-is (negated_so w.if-begun.true w.negate.ensures)
      | read_closest-else-begun w ↦ rw w.store-is (negated_not w.if-begun.false)
    ] in
    read_to_end (prefixed at.After-read_prefixes-begun) c.in_ok-part.ensures tt n c.unwind.ensures c.prefixed_grade.ensures

-- ---- read_chain: parts joined by & or by |
-- a part was read at `from`
link_read : {t : ℕ} → (c : read_chain-In_ok-right t) → let a = c.args in Read a.text.now (inner a.chain) a.room c.loop-store.from c.loop-store.store c.in_ok-right.right c.match-chain.store
link_read c = elim c.match-chain.branch [
  | read_chain-in-And w ↦ rw (w.in-And.is, w.store-is) (rw (← w.branch'-is, c.in_ok-right.was) at w.read_closest.ensures)
  | read_chain-in-Or w ↦ rw (w.in-Or.is, w.store-is) (rw (← w.branch'-is, c.in_ok-right.was) at w.read_conjunction.ensures)
]

-- or none stands there
link_missing : {t : ℕ} → (c : read_chain-In_err-right t) → let a = c.args in Nothing (inner a.chain) a.room (drop c.loop-store.from a.text.now)
link_missing c = elim c.match-chain.branch [
  | read_chain-in-And w ↦ rw w.in-And.is (rw (← w.branch'-is, c.in_err-right.was) at w.read_closest.ensures)
  | read_chain-in-Or w ↦ rw w.in-Or.is (rw (← w.branch'-is, c.in_err-right.was) at w.read_conjunction.ensures)
]

-- by what is left of it
module _ (c : Connective) (text : List ℕ) (room at from : ℕ) (s₀ s : Store) where
  -- where none stands there, no chain stands here
  none_linked : (left : Option Part) → Linking c text room at s₀ from left s → Nothing (inner c) room (drop from text) → Nothing (whole c) room (drop at text)
  none_linked (Some p) i n = chain_broken c i.0.chained i.1 n
  none_linked None i n = chain_none c (subst (λ (k : ℕ). Nothing (inner c) room (drop k text)) i.0 n)

  -- the part begins a chain
  linked_first : (p : Part) (s' : Store) → (from ≡ at) × (s ≡ s₀) → Read text (inner c) room from s p s' → Chaining c text room at s₀ p s'
  linked_first p s' i r =
      let q : Read text (inner c) room at s₀ p s' = rw (i.0, i.1) at r in
      record { chained = chain_of c q.takes q.ends; count = q.count; height = q.height }

  -- or is joined to it
  linked_more : (p q j : Part) (s₁ s₂ : Store) → Linking c text room at s₀ from (Some p) s → Read text (inner c) room from s q s₁ → Joins (kind_of c) p q s₁ j s₂ → Chaining c text room at s₀ j s₂
  linked_more p q j s₁ s₂ i r x = record {
    chained = chain_joined c i.0.chained i.1 r i.0.count i.0.height x;
    count = omega (arith, x.adds.counted, r.count, ap (λ (k : Part). k.count) x.part);
    height = x.adds.height ∙ r.height ∙ i.0.height;
  }

pub read_chain-returns-in_err-right : goal.read_chain-returns-in_err-right
read_chain-returns-in_err-right t c =
    rw c.from_residual.ensures (none_linked _ _ _ _ _ _ _ c.loop-store.left c.loop-store.invariant (link_missing (goal.at.read_chain-returns-in_err-right t c).In_err-right))

pub read_chain-join-part-requires : goal.read_chain-join-part-requires
read_chain-join-part-requires t c =
    let i = rw c.in-Some.is at c.loop-store.invariant in
    let l = i.0.chained.taken in
    let r = link_read (goal.at.read_chain-join-part-requires t c).In_ok-right in
    let q = r.takes in
    let w = i.1 in
    (some_records l, some_records q, sym r.count, omega (arith, l.slim, q.slim, i.0.count, i.0.height, c.requires.slim, q.inside, w.ahead))

-- the chain that is read then
chain_read : {t : ℕ} → (c : read_chain-After-sign t) → let a = c.args in Read a.text.now (inner a.chain) a.room c.loop-store.from c.loop-store.store c.in_ok-right.right c.match-chain.store
    → Chaining a.chain a.text.now a.room a.at a.store.now c.match-left.part c.match-left.store
chain_read c r = elim c.match-left.branch [
  | read_chain-in-Some w ↦ rw (w.store-is, w.part-is) (linked_more _ _ _ _ _ _ _ w.in-Some.left _ _ _ _ (rw w.in-Some.is at c.loop-store.invariant) r (rw w.kind.ensures at w.join-part.ensures))
  | read_chain-in-None w ↦ rw (w.store-is, w.part-is) (linked_first _ _ _ _ _ _ _ _ _ (rw w.in-None.is at c.loop-store.invariant) r)
]

-- the chain ends where another token stands
pub read_chain-returns-in_default : goal.read_chain-returns-in_default
read_chain-returns-in_default t c =
    let at = goal.at.read_chain-returns-in_default t c in
    let i = chain_read at.After-sign (link_read at.In_ok-right) in
    record { takes = i.chained.taken; ends = chain_ended c.args.chain i.chained (rw c.sign.ensures at c.in_default.ensures); count = i.count; height = i.height }

pub read_chain-loop-store-preserved : goal.read_chain-loop-store-preserved
read_chain-loop-store-preserved t c =
    let at = goal.at.read_chain-loop-store-preserved t c in
    (chain_read at.After-sign (link_read at.In_ok-right), rw c.sign.ensures at c.in-Some-expect.ensures)

-- ---- read_implication: disjunctions joined by ->, of which all but the last wait for it
pub read_implication-loop-part-init : goal.read_implication-loop-part-init
read_implication-loop-part-init t c =
    let a = c.args in
    let s = a.store.now in
    record { begun = at_first a.text.now implication a.room a.at s.height s.count s.records s.pending c.requires.inside }

-- no part stands here
pub read_implication-returns-in_err-part : goal.read_implication-returns-in_err-part
read_implication-returns-in_err-part t c =
    rw c.from_residual.ensures (λ f s x. let w = first_of (c.loop-part.invariant.begun.only f s x).1 in c.in_err-part.ensures w.0 w.1 w.2)

pub read_implication-unwind-requires : goal.read_implication-unwind-requires
read_implication-unwind-requires t c =
    let b = c.loop-part.invariant.begun in
    let p = c.in_ok-part.ensures in
    let q = p.takes in (
      omega (arith, p.count, some_records q),
      omega (arith, p.height, b.above),
      omega (arith, p.count, p.height, b.slim, q.slim, q.inside, c.requires.slim),
    )

-- the implication ends where another token stands
pub read_implication-returns-in_default : goal.read_implication-returns-in_default
read_implication-returns-in_default t c =
    let p = c.in_ok-part.ensures in
    read_to_end {s' = c.loop-part.store} c.loop-part.invariant.begun (record { takes = as_last p.takes; ends = (p.ends.0, p.ends.1, c.in_default.ensures); count = p.count; height = p.height })
    (p.ends.0, p.ends.1, c.in_default.ensures) (negated_not refl) c.unwind.ensures (c.max.ensures ∙ max_worse c.loop-part.grade c.in_ok-part.part.grade)

pub read_implication-overflow_sub-part : goal.read_implication-overflow_sub-part
read_implication-overflow_sub-part t c = some_records c.in_ok-part.ensures.takes

pub read_implication-loop-part-preserved : goal.read_implication-loop-part-preserved
read_implication-loop-part-preserved t c =
    record {
      begun =
          arrow_begun c.loop-part.invariant.begun c.in_ok-part.ensures c.in-Some.ensures c.negate.ensures c.push.ensures
          (c.max-grade.ensures ∙ max_worse c.loop-part.grade c.under_negation.result ∙ ap (worse c.loop-part.grade) c.under_negation.ensures);
    }

-- ---- read_until: behind A or E and the open bracket a rule is read, behind U another, and behind that the bracket has to be closed
-- A or E
path : {t : ℕ} → (c : read_until-After-scan-path t) → let a = c.args in Stands a.text.now a.at (Path a.q) c.scan-path.result.next
path c =
    let a = c.args in
    stands a.text.now a.at c.scan-path.result (Path a.q) (λ z. cc) c.scan-path.ensures (c.scan-path.ensures.found.token ∙ c.requires.1)

-- a part was read behind the open bracket
until_left : {t : ℕ} → (c : read_until-In_ok-left t) → let a = c.args in Read a.text.now implication (a.room - 1) c.in_ok-open.open a.store.now c.in_ok-left.left c.read_implication.new.store
until_left c = rw (← c.in_ok-inside.ensures.1) c.in_ok-left.ensures

-- and behind U
until_right : {t : ℕ} → (c : read_until-In_ok-right t) → let a = c.args in Read a.text.now implication (a.room - 1) c.in_ok-until.until c.read_implication.new.store c.in_ok-right.right c.read_implication-2.new.store
until_right c = rw (← c.in_ok-inside.ensures.1) c.in_ok-right.ensures

pub read_until-returns-in_err-open : goal.read_until-returns-in_err-open
read_until-returns-in_err-open t c =
    rw c.from_residual-in_err-open.ensures (square_missing (path (goal.at.read_until-returns-in_err-open t c).After-scan-path) c.in_err-open.ensures)

pub read_until-returns-in_err-until : goal.read_until-returns-in_err-until
read_until-returns-in_err-until t c =
    let at = goal.at.read_until-returns-in_err-until t c in
    let l = until_left at.In_ok-left in
    rw c.from_residual-in_err-until.ensures (until_missing (path at.After-scan-path) c.in_ok-open.ensures l.takes l.ends c.in_err-until.ensures)

pub read_until-returns-in_err-right : goal.read_until-returns-in_err-right
read_until-returns-in_err-right t c =
    let at = goal.at.read_until-returns-in_err-right t c in
    let l = until_left at.In_ok-left in
    rw c.from_residual-in_err-right.ensures
    (until_empty (path at.After-scan-path) c.in_ok-open.ensures l.takes l.ends c.in_ok-until.ensures (rw (← c.in_ok-inside.ensures.1) c.in_err-right.ensures))

pub read_until-returns-in_err-next : goal.read_until-returns-in_err-next
read_until-returns-in_err-next t c =
    let at = goal.at.read_until-returns-in_err-next t c in
    let l = until_left at.In_ok-left in
    let r = until_right at.In_ok-right in
    rw c.from_residual-in_err-next.ensures
    (square_open (path at.After-scan-path) c.in_ok-open.ensures l.takes l.ends c.in_ok-until.ensures (right_of l.count l.height r) r.ends c.in_err-next.ensures)

pub read_until-join-joined-requires : goal.read_until-join-joined-requires
read_until-join-joined-requires t c =
    let at = goal.at.read_until-join-joined-requires t c in
    let l = until_left at.In_ok-left in
    let r = until_right at.In_ok-right in
    let b = begins_behind (begins_behind c.requires.0 (path at.After-scan-path)) c.in_ok-open.ensures in
    (some_records l.takes, some_records r.takes, sym r.count, omega (arith, few_records (begins_after b l c.in_ok-until.ensures) r))

pub read_until-returns : goal.read_until-returns
read_until-returns t c =
    let at = goal.at.read_until-returns t c in
    let l = until_left at.In_ok-left in
    let r = until_right at.In_ok-right in
    let j = c.join-joined.ensures in
    record {
      takes =
          rw j.adds.pending
          (until_taken (path at.After-scan-path) c.in_ok-open.ensures l.takes l.ends c.in_ok-until.ensures (right_of l.count l.height r) (λ z. omega (arith, z, c.in_ok-inside.ensures.0)) c.in_ok-next.ensures (joined_by j r.count)
          (c.max.ensures ∙ max_worse c.asked_by.result c.join-joined.result.grade ∙ ap (λ (k : Grade). worse k c.join-joined.result.grade) c.asked_by.ensures));
      ends = tt;
      count = omega (arith, j.adds.counted, r.count, ap (λ (p : Part). p.count) j.part);
      height = j.adds.height ∙ r.height ∙ l.height;
    }
