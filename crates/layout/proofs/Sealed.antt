-- A block made in place: header, records and zeros one behind the other, and the check of these 510 bytes behind them.
use Rattle.std.proofs.Common.{◌≡◌, ℕ, ◌+◌, ◌-◌, ◌≤◌, List, ◌∷◌, ◌++◌, length, take, drop, replicate, sym, refl, ap, ◌∙◌, ap₂, append_assoc, add_assoc, arith, length-append, length-take-le, drop_at}
use lib.ListN.{length-replicate}
use lib.Seq.{take-append_seam}
use Rattle.layout.specs.Bytes.{part, check, word_bytes, put}
use Rattle.layout.specs.Blocks.{unsealed, sealed}
use Rattle.layout.proofs.Put.{put_behind}

-- what was put is read again
pub part_put : (vs bs : List ℕ) (at : ℕ) → at + length vs ≤ length bs → part (put bs at vs) at (length vs) ≡ vs
unfolding put
part_put vs bs at h =
    ap (λ l. take (length vs) (drop at l)) (append_assoc (take at bs) vs (drop (at + length vs) bs))
    ∙ ap (λ l. take (length vs) l) (drop_at (take at bs) (vs ++ drop (at + length vs) bs) at (length-take-le at bs (omega arith)))
    ∙ take-append_seam vs (drop (at + length vs) bs)

module _ (kind count first : ℕ) (rs : List ℕ) (fits : length rs ≤ 506) where
  abbrev header : List ℕ
  header = kind ∷ count ∷ word_bytes first

  abbrev zeros : List ℕ
  zeros = replicate (506 - length rs) 0

  pub length_unsealed : length (unsealed kind count first rs) ≡ 510
  unfolding unsealed
  length_unsealed =
      length-append header (rs ++ zeros) ∙ ap (λ n. 4 + n) (length-append rs zeros ∙ ap (λ n. length rs + n) (length-replicate (506 - length rs) 0)) ∙ omega arith

  pub length_sealed : length (sealed kind count first rs) ≡ 512
  unfolding sealed
  length_sealed = length-append (unsealed kind count first rs) (word_bytes (check (unsealed kind count first rs))) ∙ ap (λ n. n + 2) length_unsealed

  module _ (bs : List ℕ) (at : ℕ) (room : at + 512 ≤ length bs) where
    -- the 510 bytes, put one behind the other
    abbrev put_all : List ℕ
    put_all = put (put (put bs at header) (at + 4) rs) (at + 4 + length rs) zeros

    put_unsealed : put_all ≡ put bs at (unsealed kind count first rs)
    unfolding unsealed
    put_unsealed =
        ap₂ (λ l i. put l i zeros) (put_behind header rs bs at 4 refl (omega arith)) (add_assoc at 4 (length rs))
        ∙ put_behind (header ++ rs) zeros bs at (4 + length rs) (length-append header rs) (omega (arith, length-replicate {A = ℕ} (506 - length rs) 0))
        ∙ ap (put bs at) (append_assoc header rs zeros)

    -- and their check behind them
    pub put_sealed : put put_all (at + 510) (word_bytes (check (part put_all at 510))) ≡ put bs at (sealed kind count first rs)
    unfolding sealed
    put_sealed =
        ap (λ l. put l (at + 510) (word_bytes (check (part l at 510)))) put_unsealed
        ∙ ap (λ l. put (put bs at (unsealed kind count first rs)) (at + 510) (word_bytes (check l)))
        (ap (part (put bs at (unsealed kind count first rs)) at) (sym length_unsealed) ∙ part_put (unsealed kind count first rs) bs at (omega (arith, length_unsealed)))
        ∙ put_behind (unsealed kind count first rs) (word_bytes (check (unsealed kind count first rs))) bs at 510 length_unsealed (omega arith)

    -- the steps that write a block: header, records, zeros and check
    pub block_put : (n : ℕ) (headed copied filled done : List ℕ) → length rs ≡ n
        → headed ≡ put bs at header
        → copied ≡ put headed (at + 4) rs
        → filled ≡ put copied (at + 4 + n) (replicate (506 - n) 0)
        → done ≡ put filled (at + 510) (word_bytes (check (part filled at 510)))
        → done ≡ put bs at (sealed kind count first rs)
    block_put n headed copied filled done e e1 e2 e3 e4 =
        let all : filled ≡ put_all =
        e3
        ∙ ap (λ l. put l (at + 4 + n) (replicate (506 - n) 0)) (e2 ∙ ap (λ l. put l (at + 4) rs) e1)
        ∙ ap (λ m. put (put (put bs at header) (at + 4) rs) (at + 4 + m) (replicate (506 - m) 0)) (sym e) in
        e4 ∙ ap (λ l. put l (at + 510) (word_bytes (check (part l at 510)))) all ∙ put_sealed
