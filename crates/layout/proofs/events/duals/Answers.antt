-- `events::duals` meets its contract: each event is in range, so its dual may be asked for.
use Rattle.std.proofs.Common.{sym, ◌∙◌, subst, arith, rules}
use Rattle.std.proofs.lemmas.List.{get_or_default}
use Rattle.std.proofs.lemmas.Iterator.Adapters.{serves_from_places}
use Rattle.model.specs.Events.{InRange, tick}
use Rattle.layout.proofs.Arrays.{YieldsList-from_list}
use Rattle.layout.proofs.events.duals.Goals as goal

pub map-requires : goal.map-requires
map-requires c =
    let e = c.args.e in (
      search rules,
      (
        search rules,
        (
          search rules,
          serves_from_places (YieldsList-from_list e) (λ x q r. search rules)
              (λ x k h q. subst InRange (get_or_default e k tick x h ∙ sym q) (c.requires k (omega (arith, c.well_formed.0.1.0.1)))),
        ),
      ),
    )
