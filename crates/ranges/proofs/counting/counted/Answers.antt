-- `counting::counted` meets its contract. The invariant: what stands for the first p transitions is in the first `kept` places.
use mathlib.Core.Path.{◌≡◌, refl, sym, ap, ap₂, ◌∙◌}
use mathlib.Core.Bool.{cond}
use mathlib.Core.List.{List, flatten}
use Prim.Native.Nat.{◌<◌}
use native.Mathlib.Omega.{arith}
use lib.Dec.{leb}
use lib.ListN.{length, get_or, take, length-set}
use lib.Seq.{length-take-le}
use Rattle.std.proofs.lemmas.List.{get_or-take}
use Rattle.layout.specs.declared.states.Place.{Place}
use Rattle.model.specs.Events.{sent}
use Rattle.model.specs.Sides.{Move}
use Rattle.model.specs.Ranges.{below, counted}
use Rattle.layout.specs.Tables.{table, table_from}
use Rattle.layout.specs.States.{no_place, move_of, state_of}
use Rattle.layout.proofs.SignedBytes.{read_back}
use Rattle.ranges.specs.Entries.{range_of}
use Rattle.ranges.proofs.CountedRecords.{moves_in, kept, stands, counted_to, kept_turn, dropped_turn, counted_all}
use borrow.Author.Rules.{rules}
use Rattle.ranges.proofs.counting.counted.Goals as goal
use Rattle.ranges.proofs.counting.counted.Goals.{After-keeps, then-keeps, else-keeps}

pub loop-m-init : goal.loop-m-init
unfolding table table_from flatten
loop-m-init c = (search rules, refl, refl)

-- the transition of a turn, as the record has it
item : (c : After-keeps) → get_or (take c.from.result c.args.q.places) c.loop-m.m-index no_place ≡ get_or c.args.q.places c.loop-m.m-index no_place
item c = get_or-take c.from.result c.args.q.places c.loop-m.m-index no_place (omega (arith, length-take-le c.from.result c.args.q.places (omega arith)))

-- whether it is kept
kept_told : (c : After-keeps)
    → let a = c.args in kept (range_of a.e) a.n a.k (move_of (get_or a.q.places c.loop-m.m-index no_place)) ≡ c.keeps.result
unfolding range_of
kept_told c =
    let a = c.args in
    let m = get_or (take c.from.result a.q.places) c.loop-m.m-index no_place in
    sym (c.keeps.ensures
    ∙ ap (λ x. cond (sent x) (leb a.e.least a.k) (below a.k (range_of a.e).greatest)) (read_back m.event (search rules))
    ∙ ap (λ (p : Place). kept (range_of a.e) a.n a.k (move_of p)) (item c))

pub loop-m-preserved : goal.loop-m-preserved
loop-m-preserved c =
    let l = c.loop-m in
    let a = c.args in
    let r = range_of a.e in
    let k = goal.at.loop-m-preserved c in
    let told = kept_told k.After-keeps in
    elim c.if-keeps.branch [
      | then-keeps w ↦
          (let v = w.placed.result in
          let few : l.kept < length l.places = omega (arith, length-take-le c.from.result c.args.q.places (omega arith)) in
          let done = kept_turn r a.n a.k a.q l.places l.kept l.m-index v few l.invariant.2 (told ∙ w.if-keeps.true) (w.placed.ensures ∙ ap (λ (p : Place). stands r a.n a.k (move_of p)) (item k.After-keeps)) in
          (omega (arith, w.kept-is), ap length w.places-is ∙ length-set l.places l.kept v ∙ l.invariant.1, ap₂ moves_in w.places-is w.kept-is ∙ done))
      | else-keeps w ↦
          (omega (arith, w.kept-is), ap length w.places-is ∙ l.invariant.1, ap₂ moves_in w.places-is w.kept-is ∙ l.invariant.2 ∙ sym (dropped_turn r a.n a.k a.q l.m-index (told ∙ w.if-keeps.false)))
    ]

pub returns : goal.returns
unfolding state_of counted
returns c =
    let l = c.loop-m in
    let a = c.args in
    let all : l.m-index ≡ a.q.count = omega (arith, length-take-le c.from.result c.args.q.places (omega arith)) in
    let moves = l.invariant.2 ∙ ap (counted_to (range_of a.e) a.n a.k a.q) all ∙ sym (counted_all (range_of a.e) a.n a.k a.q) in
    (ap (λ (ms : List Move). record { label = a.q.label; moves = ms }) moves, omega (arith, length-take-le c.from.result c.args.q.places (omega arith)))
