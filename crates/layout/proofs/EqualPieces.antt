-- Pieces of one size, one after another (`flatten` of a table), where the size is that of the first m: piece k and its bytes, and pieces that stand in a list.
use Rattle.std.proofs.Common.{◌≡◌, ℕ, zero, suc, ◌+◌, ◌*◌, ◌<◌, ◌≤◌, List, ◌++◌, length, take, drop, sym, ap, ◌∙◌, ap₂, not-suc-le-zero, mul-le-mul_left, mul-zero, mul-suc, add-one, arith, length-drop, take_all, take-add, drop_at}
use mathlib.Core.List.{flatten}
use native.Mathlib.Decide.{ℕ_discrete}
use lib.Seq.{drop-append-le, take-append-le}
use Rattle.layout.specs.Tables.{table, table_from}
use Rattle.layout.specs.Bytes.{byte, part}
use Rattle.layout.proofs.Parts.{byte_is}
use Rattle.layout.proofs.Pieces.{pieces_more, length_first}

module _ (g : ℕ → List ℕ) (w : ℕ) where
  -- piece k of the first m
  pub piece_part : (m : ℕ) → ((k : ℕ) → k < m → length (g k) ≡ w) → (k : ℕ) → k < m → part (flatten (table m g)) (w * k) w ≡ g k
  piece_part zero e k h = absurd (not-suc-le-zero h)
  piece_part (suc m) e k h =
      ap (λ j. part (flatten (table j g)) (w * k) w) (sym (add-one m))
      ∙ ap (λ f. part f (w * k) w) (pieces_more g m)
      ∙ by (ℕ_discrete k m) (λ (u : k < m). piece_part m (λ j l. e j (omega arith)) k u)
    where
      long : length (flatten (table m g)) ≡ w * m
      long = length_first g w m (λ j l. e j (omega arith))

      by : Dec (k ≡ m) → (k < m → part (flatten (table m g)) (w * k) w ≡ g k) → part (flatten (table m g) ++ g m) (w * k) w ≡ g k
      by (yes q) rec =
          ap (λ j. part (flatten (table m g) ++ g m) (w * j) w) q
          ∙ ap (take w) (drop_at (flatten (table m g)) (g m) (w * m) long)
          ∙ take_all w (g m) (omega (arith, e m (omega arith)))
          ∙ ap g (sym q)
      by (no q) rec =
          let l : suc k ≤ m = omega arith in
          let u : w * k + w ≤ w * m = omega (arith, mul-le-mul_left w l, mul-suc w k) in
          ap (take w) (drop-append-le (w * k) (flatten (table m g)) (g m) (omega (arith, long)))
          ∙ take-append-le w (drop (w * k) (flatten (table m g))) (g m) (omega (arith, long, length-drop (w * k) (flatten (table m g))))
          ∙ rec (omega arith)

  -- byte d of piece k, where all are of that size
  pub piece_byte : ((k : ℕ) → length (g k) ≡ w) → (m k d : ℕ) → k < m → d < w → byte (flatten (table m g)) (w * k + d) ≡ byte (g k) d
  piece_byte e m k d h l = byte_is (flatten (table m g)) (w * k) w (g k) (piece_part m (λ j u. e j) k h) d l

  -- pieces that stand in a list, one after another from its front
  pub front_pieces : (bs : List ℕ) (m : ℕ) → ((k : ℕ) → k < m → g k ≡ part bs (w * k) w) → flatten (table m g) ≡ take (w * m) bs
  unfolding table table_from flatten
  front_pieces bs zero e = sym (ap (λ n. take n bs) (mul-zero w))
  front_pieces bs (suc m) e =
      ap (λ j. flatten (table j g)) (sym (add-one m))
      ∙ pieces_more g m
      ∙ ap₂ ◌++◌ (front_pieces bs m (λ k h. e k (omega arith))) (e m (omega arith))
      ∙ sym (take-add (w * m) w bs)
      ∙ ap (λ i. take i bs) (sym (mul-suc w m))
