-- `ranges::check_of` meets its contract: so far, the sum is the check of the bytes that are added up.
use Rattle.std.proofs.Common.{◌≡◌, ◌+◌, ◌%◌, refl, ap, ◌∙◌, rules}
use Rattle.std.proofs.lemmas.Fn.{fold_over, fronts}
use Rattle.std.proofs.lemmas.Iterator.{YieldsList-from_slice}
use Rattle.layout.specs.Bytes.{part, check, sum}
use Rattle.layout.proofs.Parts.{part_range, check_more}
use Rattle.layout.proofs.ranges.check_of.Goals as goal

pub returns : goal.returns
unfolding check sum
returns c =
    let a = c.args in
    let road = YieldsList-from_slice {s = c.iter.result} (part a.s.now a.at 510) (c.iter.ensures.rest ∙ part_range a.s.now a.at 510) in
    fold_over fronts (λ y. y.now) _ (λ bs n. n ≡ check bs) _
    (λ bs n x m f e k. let added : m ≡ (n + x.now) % 65536 = search rules in (added ∙ ap (λ t. (t + x.now) % 65536) e ∙ check_more bs x.now, search rules))
    c.iter.result (part a.s.now a.at 510) 0 _ road.runs refl c.fold.ensures.ran
