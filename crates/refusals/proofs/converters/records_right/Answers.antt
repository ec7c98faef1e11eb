-- `converters::records_right` meets its contract.
use mathlib.Core.Path.{sym}
use Prim.Native.Nat.{◌*◌}
use borrow.Author.Tests.{tests}
use Rattle.std.proofs.Common.{rules}
use Rattle.layout.specs.Sizes.{record_bytes}
use Rattle.refusals.specs.Refusals.{record_right, records_right}
use Rattle.refusals.proofs.Ranges.{every_from_all}
use Rattle.refusals.proofs.converters.records_right.Goals as goal

pub returns : goal.returns
unfolding records_right
returns c =
    let s = c.args.s.now in
    rw (sym c.count-n.ensures)
    (every_from_all (λ k. record_right s c.count-n.result (record_bytes * k)) c.count-n.result _ _ _ c.all.ensures.ran (cc) (λ x b q k. search (rules, tests)))
