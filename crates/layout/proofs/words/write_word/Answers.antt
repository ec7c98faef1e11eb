-- `words::write_word` meets its contract: its two bytes are stored.
use Rattle.std.proofs.Common.{◌%◌, [], ◌∷◌, refl, ap, ◌∙◌, arith}
use Rattle.layout.specs.Bytes.{word_bytes}
use Rattle.layout.proofs.Put.{put_stored}
use Rattle.layout.proofs.words.write_word.Goals as goal

pub returns : goal.returns
returns c =
    let a = c.args in
    put_stored a.s.now a.at 2 c.copy_from_slice.new.self (word_bytes a.v) (c.copy_from_slice.ensures.after ∙ c.to_le_bytes.ensures ∙ ap (λ n. a.v % 256 ∷ n ∷ []) (omega arith)) refl
