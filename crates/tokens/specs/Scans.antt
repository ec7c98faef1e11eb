-- What the functions of this crate promise, by the definitions of `Tokens`: places of a text stand for what is left of it there.
use Rattle.std.specs.Prelude.{◌≡◌, List, ℕ, ◌-◌, ◌≤◌, ◌<◌, length, drop}
use Rattle.layout.specs.Bytes.{part}
use Rattle.tokens.specs.declared.Found.{Found}
use Rattle.tokens.specs.declared.Token.TheVariants.{End}
use Rattle.tokens.specs.Tokens.{run, behind_run, behind_spaces, Scanned, scanned}

-- r is a place of the text, not before `at`
pub record Onward (text : List ℕ) (at r : ℕ) : Type 0 where
  pub onward : at ≤ r
  pub inside : r ≤ length text

pub record SpacesEnd (text : List ℕ) (at r : ℕ) : Type 0 where
  pub place : Onward text at r
  pub left : drop r text ≡ behind_spaces (drop at text)

pub record WordEnd (text : List ℕ) (at r : ℕ) : Type 0 where
  pub place : Onward text at r
  pub word : part text at (r - at) ≡ run (drop at text)
  pub left : drop r text ≡ behind_run (drop at text)

-- r is what was found, as a token and a place from `at` on
pub record Scanning (found : Scanned) (text : List ℕ) (at : ℕ) (r : Found) : Type 0 where
  pub place : Onward text at r.next
  pub token : r.token ≡ found.token
  pub left : drop r.next text ≡ found.rest

-- The first token from `from` on. Where it isn't the end, the place behind it is later.
pub record Scans (text : List ℕ) (from : ℕ) (r : Found) : Type 0 where
  pub found : Scanning (scanned (drop from text)) text from r
  pub ahead : (r.token ≡ End → ⊥) → from < r.next
