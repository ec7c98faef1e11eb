-- `word_end` meets its contract: the letters and digits that the chain counts are those at the front.
use mathlib.Core.Path.{◌∙◌}
use Rattle.std.proofs.Common.{rules, drop}
use borrow.Author.Tests.{tests}
use Rattle.std.proofs.lemmas.Iterator.{YieldsList-from_slice}
use Rattle.std.proofs.lemmas.Iterator.Consumers.{count_from_yields_List, YieldsList-at}
use Rattle.std.proofs.lemmas.Iterator.Search.{YieldsList-from_take_while}
use Rattle.std.proofs.lemmas.List.Folds.{length-prefix_len}
use Rattle.tokens.specs.Tokens.{worded}
use Rattle.tokens.proofs.Words.{rest_is, word_passed}
use Rattle.tokens.proofs.word_end.Goals as goal

pub returns : goal.returns
returns c =
    word_passed _ _ _ c.requires
    (count_from_yields_List _ _ c.count.ensures.ran
    (YieldsList-from_take_while _ worded (YieldsList-at c.take_while.ensures.source (YieldsList-from_slice _ (c.iter.ensures.rest ∙ rest_is c.args.text.now c.args.at))) c.take_while.ensures.closure c.take_while.ensures.done (λ x b q k. search (rules, tests)))
    ∙ length-prefix_len worded (drop c.args.at c.args.text.now))
