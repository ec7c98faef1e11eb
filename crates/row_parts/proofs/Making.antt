-- Four blocks or five, one behind the other.
use mathlib.Core.Path.{◌≡◌, sym, ap, ◌∙◌}
use mathlib.Core.List.{List, ◌++◌}
use Prim.Native.Nat.{ℕ, ◌+◌, ◌≤◌}
use native.Mathlib.Omega.{arith}
use lib.ListN.{length, length-append}
use lib.Seq.{take_all}
use Rattle.layout.specs.Bytes.{put}
use Rattle.layout.proofs.Put.{put_behind, length_put, take_put}

-- what is put in the place of all bytes
all_put : (vs bs : List ℕ) → length vs ≡ length bs → put bs 0 vs ≡ vs
all_put vs bs e = sym (take_all (0 + length vs) (put bs 0 vs) (omega (arith, length_put vs bs 0 (omega arith)))) ∙ take_put vs bs 0 (omega arith)

-- one block more, behind the n bytes that are there
one_more : (vs b bs l l' : List ℕ) (n : ℕ) → length vs ≡ n → length b ≡ 512 → n + 512 ≤ length bs → l ≡ put bs 0 vs → l' ≡ put l n b
    → (length (vs ++ b) ≡ n + 512) × (l' ≡ put bs 0 (vs ++ b))
one_more vs b bs l l' n hv hb room p q =
    let z : n ≡ 0 + n = omega arith in
    (omega (arith, length-append vs b), q ∙ ap (λ x. put x n b) p ∙ ap (λ m. put (put bs 0 vs) m b) z ∙ put_behind vs b bs 0 n hv (omega arith))

pub four_put : (a b c d bs l1 l2 l3 l4 : List ℕ) → length a ≡ 512 → length b ≡ 512 → length c ≡ 512 → length d ≡ 512 → length bs ≡ 2048
    → l1 ≡ put bs 0 a
    → l2 ≡ put l1 512 b
    → l3 ≡ put l2 1024 c
    → l4 ≡ put l3 1536 d
    → l4 ≡ a ++ b ++ c ++ d
four_put a b c d bs l1 l2 l3 l4 ha hb hc hd hbs e1 e2 e3 e4 =
    let two = one_more a b bs l1 l2 512 ha hb (omega arith) e1 e2 in
    let three = one_more (a ++ b) c bs l2 l3 1024 two.0 hc (omega arith) two.1 e3 in
    let four = one_more (a ++ b ++ c) d bs l3 l4 1536 three.0 hd (omega arith) three.1 e4 in
    four.1 ∙ all_put (a ++ b ++ c ++ d) bs (four.0 ∙ sym hbs)

pub five_put : (a b c d e bs l1 l2 l3 l4 l5 : List ℕ) → length a ≡ 512 → length b ≡ 512 → length c ≡ 512 → length d ≡ 512 → length e ≡ 512 → length bs ≡ 2560
    → l1 ≡ put bs 0 a
    → l2 ≡ put l1 512 b
    → l3 ≡ put l2 1024 c
    → l4 ≡ put l3 1536 d
    → l5 ≡ put l4 2048 e
    → l5 ≡ a ++ b ++ c ++ d ++ e
five_put a b c d e bs l1 l2 l3 l4 l5 ha hb hc hd he hbs e1 e2 e3 e4 e5 =
    let two = one_more a b bs l1 l2 512 ha hb (omega arith) e1 e2 in
    let three = one_more (a ++ b) c bs l2 l3 1024 two.0 hc (omega arith) two.1 e3 in
    let four = one_more (a ++ b ++ c) d bs l3 l4 1536 three.0 hd (omega arith) three.1 e4 in
    let five = one_more (a ++ b ++ c ++ d) e bs l4 l5 2048 four.0 he (omega arith) four.1 e5 in
    five.1 ∙ all_put (a ++ b ++ c ++ d ++ e) bs (five.0 ∙ sym hbs)
