-- Bytes put in the place of others (`put`): by single stores, one piece behind another, one over another, and read again.
use Rattle.std.proofs.Common.{◌≡◌, ℕ, ◌+◌, ◌-◌, ◌<◌, ◌≤◌, List, [], ◌∷◌, ◌++◌, length, take, drop, set, replicate, sym, refl, ap, ◌∙◌, subst, ap₂, append_assoc, add_assoc, add-one, arith, length-append, length-take-le, drop-drop, take_at, drop_at}
use borrow.Rule.Slice.PartMut.{put_mid}
use lib.ListN.{length-replicate, replicate-append-replicate}
use lib.Seq.{sets, sets-eq, length-sets, take-append-le, drop-append-le, take-append-add, drop-append-add}
use Rattle.layout.specs.Tables.{table}
use Rattle.layout.specs.Bytes.{byte, part, put}
use Rattle.layout.proofs.Tables.{length_table}
use Rattle.layout.proofs.Parts.{length_part, part_more}
use Rattle.layout.proofs.Pieces.{table_more}

-- a run of stores
pub put_sets : (vs bs : List ℕ) (at : ℕ) → at + length vs ≤ length bs → sets bs at vs ≡ put bs at vs
unfolding put
put_sets vs bs at h = sets-eq vs bs at h

pub put_pair : (bs : List ℕ) (at x y : ℕ) → at + 2 ≤ length bs → set (set bs at x) (at + 1) y ≡ put bs at (x ∷ y ∷ [])
put_pair bs at x y h = rw add-one (put_sets (x ∷ y ∷ []) bs at h)

-- a part of the list, stored as a whole: `s[at..at + n]` held the bytes that are put
pub put_stored : (bs : List ℕ) (at n : ℕ) (xs vs : List ℕ) → xs ≡ vs → length vs ≡ n → put_mid at (at + n - at) bs xs ≡ put bs at vs
unfolding put
put_stored bs at n xs vs e long =
    let k : at + n - at ≡ length vs = omega arith in
    rw (k, e) (ap (λ l. take at bs ++ (vs ++ l)) (drop-drop (length vs) at bs) ∙ sym (append_assoc (take at bs) vs (drop (at + length vs) bs)))

-- nothing put
pub put_nil : (bs : List ℕ) (at : ℕ) → at ≤ length bs → put bs at [] ≡ bs
put_nil bs at h = sym (put_sets [] bs at (omega arith))

pub length_put : (vs bs : List ℕ) (at : ℕ) → at + length vs ≤ length bs → length (put bs at vs) ≡ length bs
length_put vs bs at h = ap length (sym (put_sets vs bs at h)) ∙ length-sets bs at vs

-- what stands before the end of what was put, and behind it
module _ (vs bs : List ℕ) (at : ℕ) (fits : at + length vs ≤ length bs) where
  head_length : length (take at bs ++ vs) ≡ at + length vs
  head_length = length-append (take at bs) vs ∙ ap (λ n. n + length vs) (length-take-le at bs (omega arith))

  pub take_put : take (at + length vs) (put bs at vs) ≡ take at bs ++ vs
  unfolding put
  take_put = take_at (take at bs ++ vs) (drop (at + length vs) bs) (at + length vs) head_length

  pub drop_put : drop (at + length vs) (put bs at vs) ≡ drop (at + length vs) bs
  unfolding put
  drop_put = drop_at (take at bs ++ vs) (drop (at + length vs) bs) (at + length vs) head_length

-- what stands behind is as it was
pub behind_put : (vs bs : List ℕ) (at n : ℕ) → at + length vs ≤ length bs → drop (at + length vs + n) (put bs at vs) ≡ drop (at + length vs + n) bs
behind_put vs bs at n h =
    sym (drop-drop n (at + length vs) (put bs at vs)) ∙ ap (λ l. drop n l) (drop_put vs bs at h) ∙ drop-drop n (at + length vs) bs

-- one piece behind another
pub put_put : (vs ws bs : List ℕ) (at : ℕ) → at + length vs + length ws ≤ length bs → put (put bs at vs) (at + length vs) ws ≡ put bs at (vs ++ ws)
unfolding put
put_put vs ws bs at h =
    ap (λ l. l ++ ws ++ drop (at + length vs + length ws) (put bs at vs)) (take_put vs bs at (omega arith))
    ∙ ap (λ l. take at bs ++ vs ++ ws ++ l) (behind_put vs bs at (length ws) (omega arith))
    ∙ ap (λ l. l ++ drop (at + length vs + length ws) bs) (append_assoc (take at bs) vs ws)
    ∙ ap (λ n. take at bs ++ (vs ++ ws) ++ drop n bs) (add_assoc at (length vs) (length ws) ∙ ap (λ n. at + n) (sym (length-append vs ws)))

pub put_behind : (vs ws bs : List ℕ) (at i : ℕ) → length vs ≡ i → at + i + length ws ≤ length bs → put (put bs at vs) (at + i) ws ≡ put bs at (vs ++ ws)
put_behind vs ws bs at i e h = ap (λ n. put (put bs at vs) (at + n) ws) (sym e) ∙ put_put vs ws bs at (omega arith)

-- behind the first bytes of a list
pub put_later : (xs ys vs : List ℕ) (n at : ℕ) → length xs ≡ n → put (xs ++ ys) (n + at) vs ≡ xs ++ put ys at vs
unfolding put
put_later xs ys vs n at e =
    let behind : length xs + at + length vs ≡ length xs + (at + length vs) = omega arith in
    ap (λ m. put (xs ++ ys) (m + at) vs) (sym e)
    ∙ ap₂ (λ a b. a ++ vs ++ b) (take-append-add xs ys at) (ap (λ m. drop m (xs ++ ys)) behind ∙ drop-append-add xs ys (at + length vs))
    ∙ ap (λ a. a ++ drop (at + length vs) ys) (append_assoc xs (take at ys) vs)
    ∙ append_assoc xs (take at ys ++ vs) (drop (at + length vs) ys)

-- within what was put
pub put_within : (vs ws bs : List ℕ) (at : ℕ) → at + length ws ≤ length vs → put (put bs 0 vs) at ws ≡ put bs 0 (put vs at ws)
unfolding put
put_within vs ws bs at h =
    let d = drop (0 + length vs) bs in
    ap₂ (λ a b. a ++ ws ++ b) (take-append-le at vs d (omega arith)) (drop-append-le (at + length ws) vs d h)
    ∙ sym (append_assoc (take at vs ++ ws) (drop (at + length ws) vs) d)
    ∙ ap (λ n. put vs at ws ++ drop (0 + n) bs) (sym (length_put ws vs at h))

-- what stands at the front is put over, so only what is behind counts
pub put_over : (vs v w : List ℕ) (n : ℕ) → length vs ≡ n → drop n v ≡ drop n w → put v 0 vs ≡ put w 0 vs
unfolding put
put_over vs v w n l e =
    let z : n ≡ 0 + length vs = omega arith in
    ap (λ x. [] ++ vs ++ x) (subst (λ m. drop m v ≡ drop m w) z e)

-- so no less is put over what was put
pub put_again : (vs ws bs : List ℕ) → length vs ≤ length ws → length ws ≤ length bs → put (put bs 0 vs) 0 ws ≡ put bs 0 ws
put_again vs ws bs h room =
    let e : length ws ≡ 0 + length vs + (length ws - length vs) = omega arith in
    put_over ws (put bs 0 vs) bs (length ws) refl
    (ap (λ n. drop n (put bs 0 vs)) e ∙ behind_put vs bs 0 (length ws - length vs) (omega arith) ∙ ap (λ n. drop n bs) (sym e))

-- one byte more
pub put_more : (vs bs : List ℕ) (at v : ℕ) → at + length vs < length bs → set (put bs at vs) (at + length vs) v ≡ put bs at (vs ++ (v ∷ []))
put_more vs bs at v h =
    put_sets (v ∷ []) (put bs at vs) (at + length vs) (omega (arith, length_put vs bs at (omega arith))) ∙ put_put vs (v ∷ []) bs at (omega arith)

-- a turn of a loop that stores a byte behind those that it has put
pub put_next : (vs bs : List ℕ) (at i v : ℕ) → length vs ≡ i → at + i < length bs → set (put bs at vs) (at + i) v ≡ put bs at (vs ++ (v ∷ []))
put_next vs bs at i v e h = ap (λ n. set (put bs at vs) (at + n) v) (sym e) ∙ put_more vs bs at v (omega arith)

-- a turn of a loop that fills with a byte
pub fill_next : (bs : List ℕ) (at i v : ℕ) → at + i < length bs → set (put bs at (replicate i v)) (at + i) v ≡ put bs at (replicate (i + 1) v)
fill_next bs at i v h =
    put_next (replicate i v) bs at i v (length-replicate i v) h ∙ ap (λ l. put bs at l) (replicate-append-replicate i 1 v)

-- a turn of a loop that copies bytes
pub copy_next : (src dst : List ℕ) (from at i : ℕ) → from + i < length src → at + i < length dst
    → set (put dst at (part src from i)) (at + i) (byte src (from + i)) ≡ put dst at (part src from (i + 1))
copy_next src dst from at i hs hd =
    put_next (part src from i) dst at i (byte src (from + i)) (length_part src from i (omega arith)) hd
    ∙ ap (λ l. put dst at l) (sym (part_more src from i hs))

-- a turn of a loop that stores the entries of a table, one behind the other
pub put_table_next : (f : ℕ → ℕ) (bs : List ℕ) (at i : ℕ) → at + i < length bs → set (put bs at (table i f)) (at + i) (f i) ≡ put bs at (table (i + 1) f)
put_table_next f bs at i h =
    put_next (table i f) bs at i (f i) (length_table f i) h ∙ ap (λ l. put bs at l) (sym (table_more f i))
