-- `gorzhani_search` meets its contract: the search's answer, as a number.
use mathlib.Core.Path.{◌≡◌, sym, ap, ◌∙◌}
use native.Mathlib.Omega.{arith}
use lib.IntN.{pos}
use Rattle.refusals.specs.Answered.{answered}
use Rattle.gorzhani.specs.Codes.{count_code}
use Rattle.gorzhani.proofs.Numbers.{read_back}
use Rattle.gorzhani.proofs.Counts.{search_count}
use Rattle.gorzhani.proofs.Promised.{search_promised}
use Rattle.gorzhani.proofs.gorzhani_search.Goals as goal

pub counted-requires : goal.counted-requires
counted-requires c = omega (arith, search_count c.search.ensures c.in-Ok.is)

pub returns-in-Ok : goal.returns-in-Ok
returns-in-Ok c =
    let number : c.counted.result ≡ pos c.in-Ok.n = c.counted.ensures in
    search_promised c.search.ensures (read_back c.counted.result c.counted.type_inv ∙ number ∙ sym (ap (λ a. count_code (answered a)) c.in-Ok.is))
