-- The file of a converter that isn't refused, block by block.
use mathlib.Core.Path.{◌≡◌, sym, ap, ◌∙◌}
use mathlib.Core.List.{List, flatten}
use Prim.Native.Nat.{ℕ, ◌+◌, ◌-◌, ◌*◌, ◌≤◌, ◌<◌, min}
use native.Mathlib.Decide.{dec_lt}
use native.Mathlib.Omega.{arith}
use lib.ListN.{length, drop, length-drop}
use lib.Seq.{take_all}
use Rattle.layout.specs.Sizes.{record_bytes, block_records, block_record_bytes, block_bytes}
use Rattle.layout.specs.Tables.{table}
use Rattle.layout.specs.Bytes.{part, put}
use Rattle.layout.specs.Blocks.{sealed}
use Rattle.layout.specs.Converters.{records}
use Rattle.files.specs.Files.{converter_kind, blocks_for, written_block}
use Rattle.layout.proofs.Parts.{length_part}
use Rattle.layout.proofs.Put.{put_behind}
use Rattle.layout.proofs.Pieces.{pieces_more, length_first}
use Rattle.layout.proofs.EqualPieces.{piece_part}
use Rattle.layout.proofs.Sealed.{length_sealed}
use Rattle.refusals.proofs.Accepted.{Accepted}

module _ (cs : List ℕ) (a : Accepted cs) (k : ℕ) (h : k < blocks_for (records cs)) where
  -- how many records block k holds
  abbrev pub held : ℕ
  held = min block_records (records cs - block_records * k)

  -- and which they are
  pub block_part : part cs (block_record_bytes * k) block_record_bytes ≡ part cs (record_bytes * (block_records * k)) (record_bytes * held)
  block_part = ap (λ i. part cs i block_record_bytes) e ∙ by (dec_lt (records cs) (block_records * k + block_records))
    where
      w : length cs ≡ record_bytes * records cs
      w = a.whole

      e : block_record_bytes * k ≡ record_bytes * (block_records * k)
      e = omega arith

      by : Dec (records cs < block_records * k + block_records) → part cs (record_bytes * (block_records * k)) block_record_bytes ≡ part cs (record_bytes * (block_records * k)) (record_bytes * held)
      by (yes l) =
          take_all block_record_bytes (drop (record_bytes * (block_records * k)) cs) (omega (arith, length-drop (record_bytes * (block_records * k)) cs))
          ∙ sym (take_all (record_bytes * held) (drop (record_bytes * (block_records * k)) cs) (omega (arith, length-drop (record_bytes * (block_records * k)) cs)))
      by (no l) = let u : block_record_bytes ≡ record_bytes * held = omega arith in ap (part cs (record_bytes * (block_records * k))) u

  pub length_block_part : length (part cs (record_bytes * (block_records * k)) (record_bytes * held)) ≡ record_bytes * held
  length_block_part = let w = a.whole in length_part cs (record_bytes * (block_records * k)) (record_bytes * held) (omega arith)

  pub length_written_block : length (written_block cs k) ≡ block_bytes
  unfolding written_block
  length_written_block = length_sealed converter_kind held (block_records * k) (part cs (block_record_bytes * k) block_record_bytes) (omega (arith, ap length block_part, length_block_part))

  -- the block that is written
  pub put_block : (bs done : List ℕ) (count : ℕ) → count ≡ held
      → done ≡ put bs (block_bytes * k) (sealed converter_kind count (block_records * k) (part cs (record_bytes * (block_records * k)) (record_bytes * count)))
      → done ≡ put bs (block_bytes * k) (written_block cs k)
  unfolding written_block
  put_block bs done count c e =
      let at = block_bytes * k in
      let first = block_records * k in
      e
      ∙ ap (λ n. put bs at (sealed converter_kind n first (part cs (record_bytes * first) (record_bytes * n)))) c
      ∙ ap (λ r. put bs at (sealed converter_kind held first r)) (sym block_part)

-- ---- the first k blocks
module _ (cs : List ℕ) where
  abbrev pub first_blocks : ℕ → List ℕ
  first_blocks k = flatten (table k (written_block cs))

  module _ (a : Accepted cs) where
    pub length_first_blocks : (k : ℕ) → k ≤ blocks_for (records cs) → length (first_blocks k) ≡ block_bytes * k
    length_first_blocks k h = length_first (written_block cs) block_bytes k (λ j l. length_written_block cs a j (omega arith))

    -- one more, put behind them
    pub put_next_block : (bs : List ℕ) (k : ℕ) → k < blocks_for (records cs) → block_bytes * k + block_bytes ≤ length bs
        → put (put bs 0 (first_blocks k)) (block_bytes * k) (written_block cs k) ≡ put bs 0 (first_blocks (k + 1))
    put_next_block bs k h room =
        let z : block_bytes * k ≡ 0 + block_bytes * k = omega arith in
        ap (λ i. put (put bs 0 (first_blocks k)) i (written_block cs k)) z
        ∙ put_behind (first_blocks k) (written_block cs k) bs 0 (block_bytes * k) (length_first_blocks k (omega arith)) (omega (arith, length_written_block cs a k h))
        ∙ ap (put bs 0) (sym (pieces_more (written_block cs) k))

    -- block k among the first m
    pub block_of : (m k : ℕ) → k < m → m ≤ blocks_for (records cs) → part (first_blocks m) (block_bytes * k) block_bytes ≡ written_block cs k
    block_of m k h l = piece_part (written_block cs) block_bytes m (λ j u. length_written_block cs a j (omega arith)) k h
