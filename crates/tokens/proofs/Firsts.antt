-- The first token from a place on, by the byte that stands there.
use mathlib.Core.Path.{◌≡◌, refl, sym, ap, ◌∙◌}
use mathlib.Core.Bool.{true, false}
use mathlib.Core.List.{List}
use Prim.Native.Nat.{ℕ, ◌+◌, ◌-◌, ◌≤◌, ◌<◌}
use native.Mathlib.Omega.{arith}
use borrow.Author.Tests.{eq-eqb, ne_eqb}
use lib.ListN.{length, drop}
use Rattle.layout.specs.Bytes.{byte, part}
use Rattle.layout.proofs.Parts.{length_part}
use Rattle.tokens.specs.declared.Found.{Found}
use Rattle.tokens.specs.declared.Token.{Token}
use Rattle.tokens.specs.declared.Token.TheVariants.{Implies, End, Wrong}
use Rattle.tokens.specs.Tokens.{worded, run, behind_run, word_of, sign_of, Scanned, arrow, first, scanned}
use Rattle.tokens.specs.Scans.{Onward, SpacesEnd, WordEnd, Scanning, Scans}
use Rattle.tokens.proofs.Places.{left_more, left_none}
use Rattle.tokens.proofs.Words.{run_more}

module _ (text : List ℕ) where
  -- the same found from an earlier place on
  carried : (a b : ℕ) (r : Found) (found other : Scanned) → found ≡ other → a ≤ b → Scanning other text b r → Scanning found text a r
  carried a b r found other e h s = record {
    place = omega arith;
    token = s.token ∙ ap (λ f. f.token) (sym e);
    left = s.left ∙ ap (λ f. f.rest) (sym e);
  }

  -- a token and a place, as what was found
  pub scans : (at : ℕ) (r : Found) (found : Scanned) → Onward text at r.next → found ≡ record { token = r.token; rest = drop r.next text } → Scanning found text at r
  scans at r found p e = carried at at r found _ e (omega arith) (record { place = p; token = refl; left = refl })

  -- behind the spaces
  reached : (from at : ℕ) → SpacesEnd text from at → scanned (drop from text) ≡ first (drop at text)
  unfolding scanned
  reached from at s = ap first (sym s.left)

module _ (text : List ℕ) (at : ℕ) where
  -- ---- behind a hyphen
  -- an arrow's head
  pub arrow_whole : at < length text → byte text at ≡ 62 → arrow (drop at text) ≡ record { token = Implies; rest = drop (at + 1) text }
  unfolding arrow
  arrow_whole h e = ap arrow (left_more text at h) ∙ rw (eq-eqb (byte text at) 62 e)

  -- another byte
  pub arrow_other : at < length text → (byte text at ≡ 62 → ⊥) → arrow (drop at text) ≡ record { token = Wrong; rest = drop at text }
  unfolding arrow
  arrow_other h n = rw (left_more text at h, ne_eqb (byte text at) 62 n)

  -- nothing
  pub arrow_over : length text ≤ at → arrow (drop at text) ≡ record { token = Wrong; rest = drop at text }
  unfolding arrow
  arrow_over h = rw (left_none text at h)

  -- ---- where no space stands first
  -- none at the end of the text
  first_over : length text ≤ at → first (drop at text) ≡ record { token = End; rest = drop at text }
  unfolding first
  first_over h = rw (left_none text at h)

  -- a word
  first_word : at < length text → worded (byte text at) ≡ true → first (drop at text) ≡ record { token = word_of (run (drop at text)); rest = behind_run (drop at text) }
  unfolding first
  first_word h e = rw (left_more text at h, e)

  -- which is longer than nothing
  word_ahead : (r : ℕ) → WordEnd text at r → at < length text → worded (byte text at) ≡ true → at < r
  word_ahead r w h e =
      let l : at ≤ r = w.place.onward in
      omega (arith, ap length w.word ∙ ap length (run_more text at h e), length_part text at (r - at) (omega arith))

  -- what a hyphen begins
  first_hyphen : at < length text → worded (byte text at) ≡ false → byte text at ≡ 45 → first (drop at text) ≡ arrow (drop (at + 1) text)
  unfolding first
  first_hyphen h e y = ap first (left_more text at h) ∙ rw (e, eq-eqb (byte text at) 45 y)

  -- a sign of one byte
  first_sign : at < length text → worded (byte text at) ≡ false → (byte text at ≡ 45 → ⊥) → first (drop at text) ≡ record { token = sign_of (byte text at); rest = drop (at + 1) text }
  unfolding first
  first_sign h e n = ap first (left_more text at h) ∙ rw (e, ne_eqb (byte text at) 45 n)

-- ---- as the spaces end at a place
module _ (text : List ℕ) (from at : ℕ) (spaces : SpacesEnd text from at) where
  -- the text's end
  pub scans_end : length text ≤ at → Scans text from (record { token = End; next = at })
  scans_end h = record {
    found = scans text from _ _ spaces.place (reached text from at spaces ∙ first_over text at h);
    ahead = λ n. absurd (n refl);
  }

  -- a word
  pub scans_word : at < length text → worded (byte text at) ≡ true → (end : ℕ) → WordEnd text at end → (t : Token) → t ≡ word_of (part text at (end - at)) → Scans text from (record { token = t; next = end })
  scans_word h e end w t f = record {
    found =
        carried text from at _ _ _ (reached text from at spaces ∙ first_word text at h e) spaces.place.onward
        (record { place = w.place; token = f ∙ ap word_of w.word; left = w.left });
    ahead = λ n. omega (arith, word_ahead text at end w h e);
  }

  -- a hyphen and what it begins
  pub scans_arrow : at < length text → worded (byte text at) ≡ false → byte text at ≡ 45 → (r : Found) → Scanning (arrow (drop (at + 1) text)) text (at + 1) r → Scans text from r
  scans_arrow h e y r s = record {
    found = carried text from (at + 1) r _ _ (reached text from at spaces ∙ first_hyphen text at h e y) (omega arith) s;
    ahead = λ n. omega arith;
  }

  -- a sign of one byte
  pub scans_sign : at < length text → worded (byte text at) ≡ false → (byte text at ≡ 45 → ⊥) → (t : Token) → t ≡ sign_of (byte text at) → Scans text from (record { token = t; next = at + 1 })
  scans_sign h e n t f = record {
    found =
        carried text from at _ _ _ (reached text from at spaces ∙ first_sign text at h e n) spaces.place.onward
        (record { place = omega arith; token = f; left = refl });
    ahead = λ _. omega arith;
  }
