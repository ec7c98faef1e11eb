-- `designs::rule_count` meets its contract.
use Rattle.std.proofs.Common.{◌+◌, sym, ap, ◌∙◌}
use Rattle.layout.specs.Sizes.{count_in_block}
use Rattle.layout.specs.Bytes.{byte}
use Rattle.layout.proofs.DesignBytes.{rules_length}
use Rattle.layout.proofs.designs.rule_count.Goals as goal

pub returns : goal.returns
returns c =
    let s = c.args.s.now in
    c.read_byte.ensures ∙ ap (λ at. byte s (at + count_in_block)) c.rules_at.ensures ∙ sym (rules_length s)
