-- `reader::earlier` meets its contract.
use mathlib.Core.Path.{◌≡◌, refl, sym}
use Prim.Native.Nat.{ℕ, min, ◌<◌}
use native.Mathlib.Omega.{arith}
use borrow.Author.Rules.{rules}
use borrow.Author.Tests.{tests, ne_eqb}
use Rattle.refusals.specs.Answered.{refusal_of}
use Rattle.refusals.proofs.Answered.{number_some}
use Rattle.files.specs.FileRefusals.{earlier}
use Rattle.files.proofs.reader.earlier.Goals as goal

-- one refusal alone, and two
alone : (n : ℕ) → earlier n 0 ≡ n
unfolding earlier
alone n = search (rules, tests)

both : (m n : ℕ) → 0 < m → 0 < n → earlier m n ≡ min m n
unfolding earlier
both m n l k = rw (ne_eqb m 0 (λ z. omega arith), ne_eqb n 0 (λ z. omega arith)) refl

pub returns-in-Ok-default : goal.returns-in-Ok-default
unfolding earlier
returns-in-Ok-default c = rw c.in-Ok-default.is-0 refl

pub returns-in_default-Ok : goal.returns-in_default-Ok
returns-in_default-Ok c = rw c.in_default-Ok.is-1 (sym (alone (refusal_of c.args.a)))

pub returns-then-number : goal.returns-then-number
returns-then-number c =
    let e = c.in-Err-Err in
    let m = number_some e.x in
    let n = number_some e.y in
    rw (e.is-0, e.is-1) (omega (arith, both _ _ m n, c.number.ensures, c.number-in-Err-Err.ensures, c.if-number.true))

pub returns-else-number : goal.returns-else-number
returns-else-number c =
    let e = c.in-Err-Err in
    let m = number_some e.x in
    let n = number_some e.y in
    rw (e.is-0, e.is-1) (omega (arith, both _ _ m n, c.number.ensures, c.number-in-Err-Err.ensures, c.if-number.false))
