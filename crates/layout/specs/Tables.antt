-- Tables by number, and tests over the numbers below a bound: the forms in which the definitions of this folder speak of "each" and of "twice".
use Rattle.std.specs.Prelude.{ℕ, zero, suc, Bool, true, not, ◌&&◌, List, [], ◌∷◌}

-- f i, f (i + 1), .., n of them
unfoldable pub table_from : {A : Type 0} → (ℕ → A) → ℕ → ℕ → List A
table_from f i zero = []
table_from f i (suc n) = f i ∷ table_from f (suc i) n

-- f 0, f 1, .., n of them
unfoldable pub table : {A : Type 0} → ℕ → (ℕ → A) → List A
table n f = table_from f 0 n

-- each number below n passes
unfoldable pub every : ℕ → (ℕ → Bool) → Bool
every zero p = true
every (suc n) p = every n p && p n

-- no two numbers below n are the same by the test
unfoldable pub distinct : ℕ → (ℕ → ℕ → Bool) → Bool
distinct n same = every n (λ j. every j (λ i. not (same i j)))
