-- `prefixes::read_prefixes` meets its contract: from `from` to begun.next a closest part is begun.
use mathlib.Core.Path.{◌≡◌, sym, ap, ◌∙◌}
use mathlib.Core.Bool.{Bool}
use mathlib.Core.List.{List}
use Prim.Native.Nat.{ℕ, ◌+◌, ◌*◌, ◌≤◌}
use native.Mathlib.Omega.{arith}
use Rattle.tokens.specs.declared.Token.TheVariants as token
use Rattle.typed.specs.Grammar.{closest}
use Rattle.rules.specs.declared.parts.Grade.{Grade}
use Rattle.rules.specs.Grades.{worse}
use Rattle.rules.specs.Reading.{is_prefix, Begun, Stands}
use Rattle.rules.proofs.Places.{stands}
use Rattle.rules.proofs.Begun.{at_first, with_not, with_temporal}
use Rattle.rules.proofs.Graded.{max_worse}
use Rattle.rules.proofs.Tags.{not_prefix}
use Rattle.rules.proofs.prefixes.read_prefixes.Goals as goal
use Rattle.rules.proofs.prefixes.read_prefixes.Goals.{In-Temporal}
use Rattle.rules.specs.declared.records.Entry.{Entry}

-- the number of records, the height and the grade may be said by equations
by_number : {text : List ℕ} {room from height count : ℕ} {rs : List ℕ} {ps : List Entry} {at h i n m : ℕ} {g k : Grade} {nots odd : Bool} {rs' : List ℕ} {ps' : List Entry} → m ≡ n → i ≡ h → k ≡ g
    → Begun text closest room from height count rs ps at h n g nots odd rs' ps' → Begun text closest room from height count rs ps at i m k nots odd rs' ps'
by_number e f d b = rw (e, f, d) b

-- a temporal operator was found
operator : (c : In-Temporal) → Stands c.args.text.now c.loop-begun.begun.next (token.Temporal c.in-Temporal.q c.in-Temporal.o) c.scan-found.result.next
operator c = stands c.args.text.now c.loop-begun.begun.next c.scan-found.result (token.Temporal c.in-Temporal.q c.in-Temporal.o) (λ z. cc) c.scan-found.ensures c.in-Temporal.is

pub loop-begun-init : goal.loop-begun-init
loop-begun-init c =
    let s = c.args.store.now in
    record { begun = λ room. at_first c.args.text.now closest room c.args.from s.height s.count s.records s.pending c.requires.inside }

pub scan-found-requires : goal.scan-found-requires
scan-found-requires c = (c.loop-begun.invariant.begun 0).inside

pub pend-requires : goal.pend-requires
pend-requires c =
    let w = operator (goal.at.pend-requires c).In-Temporal in
    let few : c.loop-begun.store.count + c.loop-begun.store.height ≤ 2 * c.loop-begun.begun.next = omega (arith, (c.loop-begun.invariant.begun 0).slim, c.requires.slim) in
    (omega (arith, few, w.ahead, w.inside), omega (arith, few, w.ahead, w.inside))

pub loop-begun-preserved-in-Not : goal.loop-begun-preserved-in-Not
loop-begun-preserved-in-Not c =
    let w = stands c.args.text.now c.loop-begun.begun.next c.scan-found.result token.Not (λ z. cc) c.scan-found.ensures c.in-Not.is in
    record { begun = λ room. with_not (c.loop-begun.invariant.begun room) w }

pub loop-begun-preserved : goal.loop-begun-preserved
loop-begun-preserved c =
    let p = c.pend.ensures in
    record {
      begun =
          λ room.
          by_number p.count p.height (c.max-begun.ensures ∙ max_worse c.loop-begun.begun.grade c.asked_grade.result ∙ ap (worse c.loop-begun.begun.grade) c.asked_grade.ensures)
          (with_temporal (c.loop-begun.invariant.begun room) (operator (goal.at.loop-begun-preserved c).In-Temporal) p.pended);
    }

pub returns-in_default : goal.returns-in_default
returns-in_default c =
    record { begun = c.loop-begun.invariant.begun; stopped = ap is_prefix (sym c.scan-found.ensures.found.token) ∙ not_prefix c.scan-found.result.token c.in_default.not-Not c.in_default.not-Temporal }
