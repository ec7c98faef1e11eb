-- The names of propositions, by their digits behind p.
use mathlib.Core.Path.{◌≡◌}
use Prim.Native.Nat.{ℕ, ◌-◌, ◌≤◌}
use borrow.Author.Tests.{eq-eqb, le-leb}
use Rattle.layout.specs.Sizes.{last_proposition}
use Rattle.tokens.specs.declared.Token.TheVariants.{Name}
use Rattle.tokens.specs.Tokens.{name_of, two_digits, triple_of}
use Rattle.tokens.proofs.Within.{among}

-- one digit
pub one_digit : (b : ℕ) → 48 ≤ b → b ≤ 57 → Name (b - 48) ≡ name_of b
unfolding name_of
one_digit b l h = rw (among 48 57 b l h)

-- two digits of a proposition
pub both_digits : (a b c : ℕ) → a ≡ 112 → 49 ≤ b → b ≤ 57 → 48 ≤ c → c ≤ 57 → two_digits b c ≤ last_proposition → Name (two_digits b c) ≡ triple_of a b c
unfolding triple_of
both_digits a b c e lb hb lc hc h = rw (eq-eqb a 112 e, among 49 57 b lb hb, among 48 57 c lc hc, le-leb (two_digits b c) last_proposition h)
