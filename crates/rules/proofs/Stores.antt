-- Stores of single bytes behind a front that stays: a record, and a pending entry.
use mathlib.Core.Path.{◌≡◌, ap, ◌∙◌}
use mathlib.Core.List.{List, [], ◌∷◌, ◌++◌, append_assoc}
use Prim.Native.Nat.{ℕ, ◌+◌, ◌*◌, ◌≤◌, ◌<◌}
use native.Mathlib.Numerals.{add-one}
use native.Mathlib.Omega.{arith}
use lib.ListN.{length, take, set, length-set}
use lib.Seq.{take-suc-set}

-- a byte stored behind the first i
one_more : (xs : List ℕ) (i j v : ℕ) → j ≡ i + 1 → i < length xs → take j (set xs i v) ≡ take i xs ++ (v ∷ [])
one_more xs i j v e h = ap (λ (m : ℕ). take m (set xs i v)) (e ∙ add-one i) ∙ take-suc-set xs i v h

-- the four bytes of record n
pub record_stored : (rs : List ℕ) (n k x y z : ℕ) → 4 * n + 4 ≤ length rs
    → take (4 * (n + 1)) (set (set (set (set rs (4 * n) k) (4 * n + 1) x) (4 * n + 2) y) (4 * n + 3) z) ≡ take (4 * n) rs ++ (k ∷ x ∷ y ∷ z ∷ [])
record_stored rs n k x y z fits =
    let at = 4 * n in
    let first = set rs at k in
    let second = set first (at + 1) x in
    let third = set second (at + 2) y in
    let l₁ : length first ≡ length rs = length-set rs at k in
    let l₂ : length second ≡ length first = length-set first (at + 1) x in
    let l₃ : length third ≡ length second = length-set second (at + 2) y in
    one_more third (at + 3) (4 * (n + 1)) z (omega arith) (omega arith)
    ∙ ap (λ (l : List ℕ). l ++ (z ∷ []))
    (one_more second (at + 2) (at + 3) y (omega arith) (omega arith)
    ∙ ap (λ (l : List ℕ). l ++ (y ∷ [])) (one_more first (at + 1) (at + 2) x (omega arith) (omega arith) ∙ ap (λ (l : List ℕ). l ++ (x ∷ [])) (one_more rs at (at + 1) k (omega arith) (omega arith))))
    ∙ simp append_assoc
