-- What is left of a text from a place on: by the byte that stands there, and behind spaces.
use mathlib.Core.Path.{◌≡◌, ap, ◌∙◌}
use mathlib.Core.List.{List, [], ◌∷◌}
use Prim.Native.Nat.{ℕ, ◌+◌, ◌≤◌, ◌<◌}
use native.Mathlib.Numerals.{add-one}
use borrow.Author.Tests.{eq-eqb, ne_eqb}
use lib.ListN.{length, drop, drop_of_length-le}
use lib.Seq.{drop-cons}
use Rattle.layout.specs.Bytes.{byte}
use Rattle.tokens.specs.Tokens.{behind_spaces}

module _ (text : List ℕ) (at : ℕ) where
  -- a byte, and what stands behind it
  pub left_more : at < length text → drop at text ≡ byte text at ∷ drop (at + 1) text
  left_more h = rw (add-one, drop-cons text at 0)

  -- nothing, at the end
  pub left_none : length text ≤ at → drop at text ≡ []
  left_none h = drop_of_length-le text h

  -- a space is passed
  pub space_passed : at < length text → byte text at ≡ 32 → behind_spaces (drop at text) ≡ behind_spaces (drop (at + 1) text)
  unfolding behind_spaces
  space_passed h e = ap behind_spaces (left_more h) ∙ rw (eq-eqb (byte text at) 32 e)

  -- another byte isn't
  pub no_space : at < length text → (byte text at ≡ 32 → ⊥) → drop at text ≡ behind_spaces (drop at text)
  unfolding behind_spaces
  no_space h n = rw (left_more h, ne_eqb (byte text at) 32 n)

  -- and at the end of the text there is none
  pub spaces_over : length text ≤ at → drop at text ≡ behind_spaces (drop at text)
  unfolding behind_spaces
  spaces_over h = rw (left_none h)
