-- The method decides: every design of well-formed sides and formulas has a converter that works, with at most as many states as there are positions, or
-- none works. A set of positions starts full and loses, turn by turn, what the last stage lacks. It covers every matched converter all the time; when it
-- lacks the start, none works, and when nothing is lost, its positions win.
use mathlib.Core.Path.{◌≡◌, sym, ap, subst, subst⁻¹, ◌∙◌}
use mathlib.Core.Bool.{Bool, true, false, ◌&&◌}
use mathlib.Core.Logic.{⊎_elim}
use mathlib.Core.List.Memᴰ
use mathlib.Core.List.{List, ◌∷◌, ◌++◌, Memᴰ as In}
use Prim.Native.Nat.{ℕ, zero, suc, ◌+◌, ◌*◌, ◌^◌, ◌≤◌, ◌<◌}
use native.Mathlib.Omega.{arith}
use native.Mathlib.Nat.{not-suc-le-zero, mul_assoc}
use lib.Dec.{T}
use lib.ListN.{length, take, drop, length-append, take-append-drop}
use lib.Seq.{drop-cons}
use Rattle.model.specs.Joined.{zeros}
use Rattle.model.specs.Converters.{Converter}
use Rattle.model.specs.Designs.{Design, WellFormed, Works, NoneWorks}
use Rattle.model.specs.Positions.{count, joint_count, kept_count, positions}
use Rattle.model.proofs.Bools.{and_both, T-dec}
use Rattle.model.proofs.Count.{count_more}
use Rattle.model.proofs.Finite.{upto, in_upto, of_upto, tabulate_length, tabulate_at, Begins}
use Rattle.model.proofs.Rounds.{within_or}
use Rattle.model.proofs.Joint.{AllRegular, all_regular}
use Rattle.model.proofs.Untils.{Untils, untils}
use Rattle.model.proofs.Masks.{Masks, free_masks, MaskInRange, mask_of_lt, rules_mask, rule_in_mask, in_mask_rule}
use Rattle.model.proofs.Game.{Set}
use Rattle.model.proofs.Covers.{Covers, covers_all, covers_next, covers_both}
use Rattle.model.proofs.NoneWorks.{none_works}
use Rattle.model.proofs.Built.{built_works}
use Rattle.model.proofs.Places.{Position, places, places_length, numbered, every_place}
use Rattle.model.proofs.Winning.{converter, converter_length, plan, built, owes_goal}
use Rattle.model.proofs.Stages.{last, closed, winning}

-- ---- the masks below n, with one of them first
rotated : ℕ → ℕ → List ℕ
rotated n a = drop a (upto n) ++ take a (upto n)

rotated_length : (n a : ℕ) → length (rotated n a) ≡ n
unfolding rotated upto
rotated_length n a =
    let split : length (take a (upto n)) + length (drop a (upto n)) ≡ length (upto n) = sym (length-append (take a (upto n)) (drop a (upto n))) ∙ ap length (take-append-drop a (upto n)) in
    let whole : length (upto n) ≡ n = tabulate_length n (λ k. k) in
    length-append (drop a (upto n)) (take a (upto n)) ∙ omega arith

in_rotated : (n a k : ℕ) → k < n → In k (rotated n a)
unfolding rotated
in_rotated n a k h =
    ⊎_elim
    (λ (i : In k (take a (upto n))). Memᴰ.append_right (drop a (upto n)) i)
    (λ (i : In k (drop a (upto n))). Memᴰ.append_left (take a (upto n)) i)
    (Memᴰ.append_cases (take a (upto n)) (subst⁻¹ (λ (l : List ℕ). In k l) (take-append-drop a (upto n)) (in_upto n k h)))

of_rotated : (n a k : ℕ) → In k (rotated n a) → k < n
unfolding rotated
of_rotated n a k i =
    of_upto n k (subst (λ (l : List ℕ). In k l) (take-append-drop a (upto n))
    (⊎_elim
    (λ (j : In k (drop a (upto n))). Memᴰ.append_right (take a (upto n)) j)
    (λ (j : In k (take a (upto n))). Memᴰ.append_left (drop a (upto n)) j)
    (Memᴰ.append_cases (drop a (upto n)) i)))

rotated_begins : (n a : ℕ) → a < n → Begins a (rotated n a)
unfolding rotated upto
rotated_begins n a h =
    let whole : length (upto n) ≡ n = tabulate_length n (λ k. k) in (
      drop (suc a) (upto n) ++ take a (upto n),
      ap (λ (l : List ℕ). l ++ take a (upto n)) (drop-cons (upto n) a 0 (omega arith) ∙ ap (λ (x : ℕ). x ∷ drop (suc a) (upto n)) (tabulate_at n (λ k. k) a 0 h)),
    )

-- a converter that works and is no larger than the game, or none works
pub data Solution (D : Design) : Type 0 where
  found : (C : Converter) → Works D C → length C ≤ positions D → Solution D
  none : NoneWorks D → Solution D

module _ (D : Design) (wf : WellFormed D) where
  reg : AllRegular D.sides
  reg = all_regular D.sides wf.each_side

  abbrev M : Masks D.forms
  M = free_masks D wf.lower

  abbrev U : Untils D.forms
  U = untils D

  abbrev goal : ℕ
  goal = rules_mask D

  goal_ok : MaskInRange D (λ f. false) (rules_mask D)
  unfolding rules_mask
  goal_ok = (mask_of_lt D _, λ f t. absurd t)

  abbrev ms : List ℕ
  ms = rotated (2 ^ kept_count D) goal

  sound : (m : ℕ) → In m ms → MaskInRange D (λ f. false) m
  sound m i = (of_rotated (2 ^ kept_count D) goal m i, λ f t. absurd t)

  complete : (m : ℕ) → MaskInRange D (λ f. false) m → In m ms
  complete m h = in_rotated (2 ^ kept_count D) goal m h.0

  abbrev outside : Position ℕ
  outside = record { joint = zeros D.sides; owed = goal; turn = 0 }

  abbrev all_places : List (Position ℕ)
  all_places = places D.sides ms U.count

  -- as many as the specification counts
  places_count : length all_places ≡ positions D
  unfolding positions
  places_count =
      places_length D.sides ms U.count
      ∙ sym (mul_assoc (joint_count D.sides) (length ms) U.count)
      ∙ ap (λ (n : ℕ). joint_count D.sides * n * U.count) (rotated_length (2 ^ kept_count D) goal)

  abbrev PositionSet : Type 0
  PositionSet = Set D.sides D.forms M U

  abbrev by_number : PositionSet → ℕ → Bool
  by_number X = numbered D.sides ms U.count outside X

  abbrev won : PositionSet → PositionSet
  won X = last D.sides D.forms M U reg ms sound complete X outside

  -- the last stage over a covering set covers
  won_covers : (X : PositionSet) → Covers D.sides D.forms M U X → Covers D.sides D.forms M U (won X)
  won_covers X cov = covers_next D.sides reg D.forms wf.lower M U X (won X) cov (closed D.sides D.forms M U reg ms sound complete X outside)

  -- where nothing is lost and the start is won, there is a converter
  from_winning : (X : PositionSet) → ((c : ℕ) → c < length all_places → T (by_number X c) → T (by_number (won X) c)) → T (won X (zeros D.sides) goal 0) → Solution D
  from_winning X inside start_won =
      let win = winning D.sides D.forms M U reg ms sound complete X outside (λ s m i hs hm hi. every_place D.sides ms U.count outside (λ s m i. T (X s m i) → T (won X s m i)) inside s m i hs (complete m hm) hi) in
      let begins : Begins goal ms = rotated_begins (2 ^ kept_count D) goal goal_ok.0 in
      found
      (converter D.sides D.forms M U reg ms sound complete (won X) win goal goal_ok start_won)
      (built_works D wf.lower reg wf.rules_there M U
      (converter D.sides D.forms M U reg ms sound complete (won X) win goal goal_ok start_won)
      (plan D.sides D.forms M U reg ms sound complete (won X) win goal goal_ok start_won)
      (built D.sides D.forms M U reg ms sound complete (won X) win goal goal_ok start_won begins)
      (λ r i. subst⁻¹ (λ (m : ℕ). T (M.bit m r)) (owes_goal D.sides D.forms M U reg ms sound complete (won X) win goal goal_ok start_won begins) (rule_in_mask D r (wf.rules_there r i) i)))
      (let e : length (converter D.sides D.forms M U reg ms sound complete (won X) win goal goal_ok start_won) ≡ positions D =
      converter_length D.sides D.forms M U reg ms sound complete (won X) win goal goal_ok start_won ∙ places_count in omega arith)

  -- turn by turn, while the set gets smaller
  turns : (fuel : ℕ) (X : PositionSet) → Covers D.sides D.forms M U X → count (by_number X) (length all_places) < fuel → Solution D
  turns zero X cov lt = absurd (not-suc-le-zero lt)
  turns (suc fuel) X cov lt =
      elim (T-dec (won X (zeros D.sides) goal 0)) [
        | no lost ↦ none (none_works D wf.lower reg wf.rules_there M U (won X) (won_covers X cov) goal goal_ok (in_mask_rule D) lost)
        | yes start_won ↦
            ⊎_elim
            (λ (inside : (c : ℕ) → c < length all_places → T (by_number X c) → T (by_number (won X) c)). from_winning X inside start_won)
            (λ (w : (c : ℕ) × (c < length all_places) × T (by_number X c) × (T (by_number (won X) c) → ⊥)).
            let both : PositionSet = λ s m i. X s m i && won X s m i in
            let fewer : count (by_number both) (length all_places) < count (by_number X) (length all_places) =
            count_more (by_number both) (by_number X) (length all_places) (λ c h t. (and_both (by_number X c) (by_number (won X) c) t).0) w.0 w.1 (λ t. w.3 (and_both (by_number X w.0) (by_number (won X) w.0) t).1) w.2 in
            turns fuel both (covers_both D.sides reg D.forms wf.lower M U X (won X) cov (won_covers X cov)) (omega arith))
            (within_or (by_number X) (by_number (won X)) (length all_places))
      ]

  -- the method
  pub solved : Solution D
  solved = turns (suc (count (by_number (λ s m i. true)) (length all_places))) (λ s m i. true) (covers_all D.sides reg D.forms wf.lower M U) (omega arith)
