-- `Record::has` meets its contract: one of its transitions has the events.
use Rattle.std.proofs.Common.{◌≡◌, take, ap, ◌∙◌, rules}
use Rattle.std.specs.Cmp.Lexicographic.{pointwise}
use Rattle.std.specs.Ordering.{int_eq}
use Rattle.std.proofs.lemmas.Iterator.{YieldsList-from_slice}
use Rattle.std.proofs.lemmas.Iterator.Search.{any_from_yields_List}
use Rattle.model.specs.Judged.{same_events}
use Rattle.layout.specs.declared.records.Transition.{Transition}
use Rattle.layout.specs.Records.{no_transition, present}
use Rattle.layout.proofs.ListTests.{first_any, pointwise_is_same_events}
use Rattle.layout.proofs.records.Record.has.Goals as goal

pub returns : goal.returns
unfolding present
returns c =
    let r = c.args.self in
    any_from_yields_List (λ (t : Transition). same_events t.events c.args.events) _ _ _ c.any.ensures.ran (YieldsList-from_slice (take r.count r.places) (c.iter.ensures.rest ∙ ap (λ n. take n r.places) c.from.ensures))
    (λ t b q k. let e : b ≡ pointwise int_eq t.now.events c.args.events = search rules in (search rules, e ∙ pointwise_is_same_events t.now.events c.args.events))
    ∙ first_any (λ (t : Transition). same_events t.events c.args.events) no_transition r.places r.count (search rules)
