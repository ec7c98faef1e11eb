-- `blocks::write_header` meets its contract: two stores and a word, one behind the other.
use Rattle.std.proofs.Common.{◌+◌, [], ◌∷◌, refl, ap, ◌∙◌, arith}
use Rattle.layout.specs.Bytes.{put, word_bytes}
use Rattle.layout.proofs.Put.{put_pair, put_behind}
use Rattle.layout.proofs.blocks.write_header.Goals as goal

pub returns : goal.returns
returns c =
    let a = c.args in
    c.write_word.ensures
    ∙ ap (λ l. put l (a.at + 2) (word_bytes a.first)) (put_pair a.s.now a.at a.kind a.count (omega arith))
    ∙ put_behind (a.kind ∷ a.count ∷ []) (word_bytes a.first) a.s.now a.at 2 refl (omega (arith, c.requires))
