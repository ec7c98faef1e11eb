-- Parts of a list of bytes (`part`), by one byte more, by index and within another, and what is added up over one.
use Rattle.std.proofs.Common.{◌≡◌, ℕ, ◌+◌, ◌-◌, ◌%◌, ◌<◌, ◌≤◌, true, false, eqb, List, [], ◌∷◌, ◌++◌, length, take, drop, sym, ap, ◌∙◌, add_assoc, add-one, arith, length-drop, length-take-le, get_or-drop, get_or-take, take-suc, ext_get_or, eq-eqb, ne_eqb, eqb-true}
use Rattle.layout.specs.Bytes.{byte, part, all_zero, sum, check}
use Rattle.layout.proofs.Tables.{all_true, all_false, all_at}

module _ (bs : List ℕ) (at : ℕ) where
  pub length_part : (n : ℕ) → at + n ≤ length bs → length (part bs at n) ≡ n
  length_part n h = length-take-le n (drop at bs) (omega (arith, length-drop at bs))

  -- as the range `at..at + n` reads it
  pub part_range : (n : ℕ) → take (at + n - at) (drop at bs) ≡ part bs at n
  part_range n = ap (λ k. take k (drop at bs)) (omega arith)

  pub byte_part : (n i : ℕ) → i < n → byte (part bs at n) i ≡ byte bs (at + i)
  byte_part n i h = get_or-take n (drop at bs) i 0 h ∙ get_or-drop at bs i 0

  -- of bytes that are known
  pub byte_is : (n : ℕ) (vs : List ℕ) → part bs at n ≡ vs → (i : ℕ) → i < n → byte bs (at + i) ≡ byte vs i
  byte_is n vs e i h = sym (byte_part n i h) ∙ ap (λ l. byte l i) e

  -- a list of the length and the bytes of a part is that part
  pub part_is : (n : ℕ) (vs : List ℕ) → at + n ≤ length bs → length vs ≡ n → ((i : ℕ) → i < n → byte vs i ≡ byte bs (at + i)) → vs ≡ part bs at n
  part_is n vs fits long same =
      ext_get_or 0 vs (part bs at n) (long ∙ sym (length_part n fits)) (λ i h.
      let l : i < n = omega (arith, long) in
      same i l ∙ sym (byte_part n i l))

  -- one byte more
  pub part_more : (i : ℕ) → at + i < length bs → part bs at (i + 1) ≡ part bs at i ++ (byte bs (at + i) ∷ [])
  part_more i h =
      ap (λ n. take n (drop at bs)) (add-one i)
      ∙ take-suc (drop at bs) i 0 (omega (arith, length-drop at bs))
      ∙ ap (λ b. part bs at i ++ (b ∷ [])) (get_or-drop at bs i 0)

-- a part of a part
pub part_part : (bs : List ℕ) (at n i m : ℕ) → at + n ≤ length bs → i + m ≤ n → part (part bs at n) i m ≡ part bs (at + i) m
part_part bs at n i m h l =
    part_is bs (at + i) m (part (part bs at n) i m) (omega arith) (length_part (part bs at n) i m (omega (arith, length_part bs at n h))) (λ j v.
    byte_part (part bs at n) i m j v ∙ byte_part bs at n (i + j) (omega arith) ∙ ap (byte bs) (sym (add_assoc at i j)))

-- ---- added up
sum_more : (bs : List ℕ) (b : ℕ) → sum (bs ++ (b ∷ [])) ≡ sum bs + b
unfolding sum
sum_more [] b = omega arith
sum_more (x ∷ bs) b = ap (λ n. x + n) (sum_more bs b) ∙ sym (add_assoc x (sum bs) b)

-- the check of one byte more
pub check_more : (bs : List ℕ) (b : ℕ) → (check bs + b) % 65536 ≡ check (bs ++ (b ∷ []))
unfolding check
check_more bs b = omega (arith, sum_more bs b)

-- ---- zeros
module _ (bs : List ℕ) (at n : ℕ) (fits : at + n ≤ length bs) where
  pub zeros : ((k : ℕ) → k < n → byte bs (at + k) ≡ 0) → all_zero (part bs at n) ≡ true
  unfolding all_zero
  zeros f =
      all_true (λ b. eqb b 0) 0 (part bs at n)
      (λ k h. let l : k < n = omega (arith, length_part bs at n fits) in eq-eqb (byte (part bs at n) k) 0 (byte_part bs at n k l ∙ f k l))

  pub zero_at : all_zero (part bs at n) ≡ true → (k : ℕ) → k < n → byte bs (at + k) ≡ 0
  unfolding all_zero
  zero_at e k h =
      sym (byte_part bs at n k h) ∙ eqb-true (byte (part bs at n) k) 0 (all_at (λ b. eqb b 0) 0 (part bs at n) e k (omega (arith, length_part bs at n fits)))

  pub not_zeros : (k : ℕ) → k < n → (byte bs (at + k) ≡ 0 → ⊥) → all_zero (part bs at n) ≡ false
  unfolding all_zero
  not_zeros k h ne =
      all_false (λ b. eqb b 0) 0 (part bs at n) k (omega (arith, length_part bs at n fits))
      (ne_eqb (byte (part bs at n) k) 0 (λ e. ne (sym (byte_part bs at n k h) ∙ e)))
