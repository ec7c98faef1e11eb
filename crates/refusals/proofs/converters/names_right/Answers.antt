-- `converters::names_right` meets its contract.
use mathlib.Core.Path.{sym, ◌∙◌}
use mathlib.Core.Bool.{Bool}
use Prim.Native.Nat.{ℕ}
use borrow.Author.Tests.{tests}
use lib.Dec.{ltb}
use Rattle.std.proofs.Common.{rules}
use Rattle.std.proofs.lemmas.Iterator.{YieldsList-from_slice}
use Rattle.std.proofs.lemmas.Iterator.Search.{all_from_yields_List}
use Rattle.layout.specs.Sizes.{most_states}
use Rattle.refusals.proofs.AllTests.{all_is_list_all}
use Rattle.refusals.proofs.converters.names_right.Goals as goal

pub returns : goal.returns
returns c =
    let names = c.args.names in
    let below : ℕ → Bool = λ s. ltb s most_states in
    all_from_yields_List below _ _ _ c.all.ensures.ran (YieldsList-from_slice names (cc)) (λ x b q k. search (rules, tests)) ∙ sym (all_is_list_all below names)
