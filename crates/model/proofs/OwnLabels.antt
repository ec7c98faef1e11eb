-- A label belongs to one side: propositions 0 to 15 are the first side's labels, and those from 16 on are the other sides' by themselves. Then the same of three
-- sides.
use mathlib.Core.Path.{◌≡◌, ◌∙◌}
use mathlib.Core.Bool.{false}
use mathlib.Core.List.{List, [], ◌∷◌}
use Prim.Native.Nat.{ℕ, suc, ◌+◌, ◌/◌, ◌%◌, ◌<◌}
use native.Mathlib.Omega.{arith}
use Rattle.model.specs.Sides.{Side, state}
use Rattle.model.specs.Joined.{bit, side_labels, label_words, own_label, labelled}
use Rattle.model.proofs.Sets.{digit_zero}

-- ---- of label words
pub first_word : (w : ℕ) (ws : List ℕ) (p : ℕ) → p < side_labels → own_label (w ∷ ws) p ≡ bit w p
unfolding own_label
first_word w ws p h =
    let i : p / side_labels ≡ 0 = omega arith in
    let k : p % side_labels ≡ p = omega arith in
    simp (i, k)

pub other_words : (w : ℕ) (ws : List ℕ) (p : ℕ) → own_label (w ∷ ws) (side_labels + p) ≡ own_label ws p
unfolding own_label
other_words w ws p =
    let i : (side_labels + p) / side_labels ≡ suc (p / side_labels) = omega arith in
    let k : (side_labels + p) % side_labels ≡ p % side_labels = omega arith in
    simp (i, k)

-- where there is no side, no proposition holds
pub no_words : (p : ℕ) → own_label [] p ≡ false
unfolding own_label
no_words p = digit_zero (p % side_labels)

-- ---- of a joint state of any number of sides
module _ (S : Side) (Ss : List Side) (s : ℕ) (ss : List ℕ) (p : ℕ) where
  pub first_side : p < side_labels → labelled (S ∷ Ss) (s ∷ ss) p ≡ bit (state S s).label p
  unfolding labelled label_words
  first_side h = first_word (state S s).label (label_words Ss ss) p h

  pub other_sides : labelled (S ∷ Ss) (s ∷ ss) (side_labels + p) ≡ labelled Ss ss p
  unfolding labelled label_words
  other_sides = other_words (state S s).label (label_words Ss ss) p

-- ---- of three sides: the kernel's labels are 0 to 15, the host's 16 to 31, the third side's 32 to 47, and none is higher
module _ (K H Q : Side) (k h q p : ℕ) where
  abbrev Ss : List Side
  Ss = K ∷ H ∷ Q ∷ []

  abbrev ss : List ℕ
  ss = k ∷ h ∷ q ∷ []

  pub kernel_label : p < side_labels → labelled Ss ss p ≡ bit (state K k).label p
  kernel_label = first_side K (H ∷ Q ∷ []) k (h ∷ q ∷ []) p

  pub host_label : p < side_labels → labelled Ss ss (side_labels + p) ≡ bit (state H h).label p
  host_label l = other_sides K (H ∷ Q ∷ []) k (h ∷ q ∷ []) p ∙ first_side H (Q ∷ []) h (q ∷ []) p l

  -- what the third side alone says of a proposition
  behind_two : (x : ℕ) → labelled Ss ss (side_labels + (side_labels + x)) ≡ labelled (Q ∷ []) (q ∷ []) x
  behind_two x = other_sides K (H ∷ Q ∷ []) k (h ∷ q ∷ []) (side_labels + x) ∙ other_sides H (Q ∷ []) h (q ∷ []) x

  pub third_label : p < side_labels → labelled Ss ss (side_labels + (side_labels + p)) ≡ bit (state Q q).label p
  third_label l = behind_two p ∙ first_side Q [] q [] p l

  pub no_label : labelled Ss ss (side_labels + (side_labels + (side_labels + p))) ≡ false
  unfolding labelled label_words
  no_label = behind_two (side_labels + p) ∙ other_sides Q [] q [] p ∙ no_words p
