-- Pieces of a list one after another, made by number (`flatten` of a table): one piece more, and the length where all are of one size.
use Rattle.std.proofs.Common.{◌≡◌, ℕ, zero, suc, ◌+◌, ◌*◌, ◌<◌, List, [], ◌∷◌, ◌++◌, length, sym, ap, ◌∙◌, ap₂, append_assoc, append-nil, mul-zero, mul-suc, add-one, arith, length-append}
use mathlib.Core.List.{flatten}
use Rattle.layout.specs.Tables.{table, table_from}

-- one entry more
table_from_more : {A : Type 0} (f : ℕ → A) (i n : ℕ) → table_from f i (suc n) ≡ table_from f i n ++ (f (i + n) ∷ [])
unfolding table_from
table_from_more f i zero = ap (λ j. f j ∷ []) (omega arith)
table_from_more f i (suc n) = ap (λ l. f i ∷ l) (table_from_more f (suc i) n ∙ ap (λ j. table_from f (suc i) n ++ (f j ∷ [])) (omega arith))

pub table_more : {A : Type 0} (f : ℕ → A) (n : ℕ) → table (n + 1) f ≡ table n f ++ (f n ∷ [])
unfolding table
table_more f n = ap (table_from f 0) (add-one n) ∙ table_from_more f 0 n ∙ ap (λ j. table_from f 0 n ++ (f j ∷ [])) (omega arith)

flatten_more : {A : Type 0} (ls : List (List A)) (l : List A) → flatten (ls ++ (l ∷ [])) ≡ flatten ls ++ l
unfolding flatten
flatten_more [] l = append-nil l
flatten_more (x ∷ ls) l = ap (λ r. x ++ r) (flatten_more ls l) ∙ sym (append_assoc x (flatten ls) l)

module _ {A : Type 0} (g : ℕ → List A) where
  -- one piece more
  pub pieces_more : (n : ℕ) → flatten (table (n + 1) g) ≡ flatten (table n g) ++ g n
  pieces_more n = ap flatten (table_more g n) ∙ flatten_more (table n g) (g n)

  -- pieces of one size, where it is that of the first n
  pub length_first : (w n : ℕ) → ((k : ℕ) → k < n → length (g k) ≡ w) → length (flatten (table n g)) ≡ w * n
  unfolding table table_from flatten
  length_first w zero e = sym (mul-zero w)
  length_first w (suc n) e =
      ap (λ j. length (flatten (table j g))) (sym (add-one n))
      ∙ ap length (pieces_more n)
      ∙ length-append (flatten (table n g)) (g n)
      ∙ ap₂ ◌+◌ (length_first w n (λ k h. e k (omega arith))) (e n (omega arith))
      ∙ sym (mul-suc w n)

  -- and where it is that of all
  pub length_pieces : (w : ℕ) → ((k : ℕ) → length (g k) ≡ w) → (n : ℕ) → length (flatten (table n g)) ≡ w * n
  length_pieces w e n = length_first w n (λ k h. e k)
