-- `converters::record_right` meets its contract: the record by value, the unused byte of each place that its count says, and the places behind; the count is at most 8 by then.
use mathlib.Core.Path.{◌≡◌}
use mathlib.Core.Bool.{◌&&◌}
use mathlib.Core.List.{List}
use Prim.Native.Nat.{ℕ}
use native.Mathlib.Omega.{arith}
use Rattle.std.proofs.lemmas.Bool.Decides.{nat_tests}
use Rattle.layout.specs.Sizes.{transition_bytes}
use Rattle.layout.specs.Bytes.{all_zero}
use Rattle.layout.specs.Records.{record_at}
use Rattle.layout.specs.Unused.{converter_record, place_gaps, places_behind, unused}
use Rattle.refusals.specs.Refusals.{record_right}
use Rattle.refusals.proofs.NodeRecords.{few_places}
use Rattle.refusals.proofs.ZeroBytes.{zeros_append}
use Rattle.refusals.proofs.converters.record_right.Goals as goal

-- the unused bytes by the count
by_count : (s : List ℕ) (at : ℕ)
    → all_zero (unused converter_record s at) ≡ (all_zero (place_gaps (record_at s at).count s at) && all_zero (places_behind (record_at s at).count transition_bytes s at))
unfolding unused record_at
by_count s at = zeros_append _ _

pub gaps_right-requires : goal.gaps_right-requires
gaps_right-requires c = (c.requires, grind (arith, nat_tests, few_places c.args.n c.read_record-r.result))

pub overflow_sub-count : goal.overflow_sub-count
overflow_sub-count c = grind (arith, nat_tests, few_places c.args.n c.read_record-r.result)

pub is_zero-requires : goal.is_zero-requires
is_zero-requires c = grind (arith, nat_tests, few_places c.args.n c.read_record-r.result)

pub returns-then-gaps_right : goal.returns-then-gaps_right
unfolding record_right
returns-then-gaps_right c = grind (arith, nat_tests, by_count c.args.s.now c.args.at)

pub returns-else-gaps_right : goal.returns-else-gaps_right
unfolding record_right
returns-else-gaps_right c = grind (arith, nat_tests, by_count c.args.s.now c.args.at)
