-- `designs::rule` meets its contract.
use Rattle.std.proofs.Common.{ap, ◌∙◌, arith}
use Rattle.layout.specs.Bytes.{byte}
use Rattle.layout.proofs.DesignBytes.{stored_rule_is}
use Rattle.layout.proofs.designs.rule.Goals as goal

pub returns : goal.returns
returns c =
    let s = c.args.s.now in
    let k = c.args.k in
    c.read_byte.ensures ∙ ap (byte s) (omega (arith, c.rules_at.ensures)) ∙ stored_rule_is s k c.requires.1
