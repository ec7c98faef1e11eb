-- Rounds by the path meaning: k rounds of an until say that every path has reached its second part within k steps, and k rounds of an always that every
-- path keeps its operand for k steps. So the rank of an until is the least time within which every path has reached its second part.
use mathlib.Core.Path.{◌≡◌, subst, subst⁻¹}
use mathlib.Core.Bool.{Bool}
use mathlib.Core.Logic.{inl, inr, ⊎_elim, ◌↔◌}
use mathlib.Core.List.{Memᴰ as In}
use Prim.Native.Nat.{ℕ, zero, suc, ◌≤◌, ◌<◌}
use native.Mathlib.Omega.{arith}
use native.Mathlib.Nat.{not-suc-le-zero}
use native.Mathlib.Decide.{dec_le}
use lib.Dec.{T}
use Rattle.model.specs.Actl.{Path}
use Rattle.model.specs.Judged.{Kripke, until_by, always_for}
use Rattle.model.proofs.Bools.{T-dec}
use Rattle.model.proofs.Graph.{Serial, system, first_step, rest, step_then, walking}
use Rattle.model.proofs.Labels.{until_open, until_close, until_rank, until_rank_holds, until_rank_le, always_open, always_close}

module _ (K : Kripke) where
  -- ---- until
  -- b is reached along a path within k steps, through a
  abbrev pub ReachedBy : (a b : ℕ → Bool) (k c : ℕ) → Path (system K) c → Type 0
  ReachedBy a b k c r = (j : ℕ) × (j ≤ k) × T (b (r.at j)) × ((i : ℕ) → i < j → T (a (r.at i)))

  module _ (a b : ℕ → Bool) where
    -- at once
    reached_now : (k c : ℕ) → T (b c) → (r : Path (system K) c) → ReachedBy a b k c r
    reached_now k c t r = (0, omega arith, subst⁻¹ (λ (x : ℕ). T (b x)) r.begins t, λ i h. absurd (not-suc-le-zero h))

    -- or a step later than along the rest of the path
    reached_later : (k c : ℕ) → T (a c) → (r : Path (system K) c) → ReachedBy a b k (r.at 1) (rest r) → ReachedBy a b (suc k) c r
    reached_later k c t r w = let le : w.0 ≤ k = w.1 in (suc w.0, omega arith, w.2, before)
      where
        before : (i : ℕ) → i < suc w.0 → T (a (r.at i))
        before zero h = subst⁻¹ (λ (x : ℕ). T (a x)) r.begins t
        before (suc i) h = w.3 i (omega arith)

    -- what is settled within k rounds is reached within k steps
    reached : (k c : ℕ) → T (until_by K a b k c) → (r : Path (system K) c) → ReachedBy a b k c r
    unfolding until_by
    reached zero c t r = reached_now 0 c t r
    reached (suc k) c t r =
        ⊎_elim
        (λ (x : T (b c)). reached_now (suc k) c x r)
        (λ (w : T (a c) × ((d : ℕ) → In d (K.succs c) → T (until_by K a b k d))). reached_later k c w.0 r (reached k (r.at 1) (w.1 (r.at 1) (first_step (system K) c r)) (rest r)))
        (until_open K a b k c t)

    -- where b fails at first, a holds there and b is reached along the rest
    reached_on : (k c : ℕ) (r : Path (system K) c) → (T (b c) → ⊥) → ReachedBy a b (suc k) c r → T (a c) × ReachedBy a b k (r.at 1) (rest r)
    reached_on k c r n w = by w.0 w.1 w.2 w.3
      where
        by : (j : ℕ) → j ≤ suc k → T (b (r.at j)) → ((i : ℕ) → i < j → T (a (r.at i))) → T (a c) × ReachedBy a b k (r.at 1) (rest r)
        by zero le t before = absurd (n (subst (λ (x : ℕ). T (b x)) r.begins t))
        by (suc j) le t before = (subst (λ (x : ℕ). T (a x)) r.begins (before 0 (omega arith)), (j, omega arith, t, λ i h. before (suc i) (omega arith)))

    module _ (G : Serial K) where
      -- and what every path reaches within k steps is settled within k rounds
      settled : (k c : ℕ) → c < K.size → ((r : Path (system K) c) → ReachedBy a b k c r) → T (until_by K a b k c)
      unfolding until_by
      settled zero c h all_r =
          let p = walking K G G.total c h in
          let w = all_r p in
          let now : w.0 ≡ 0 = omega (arith, w.1) in
          subst (λ (j : ℕ). T (b (p.at j))) now w.2
      settled (suc k) c h all_r =
          elim (T-dec (b c)) [
            | yes t ↦ until_close K a b k c (inl t)
            | no n ↦
                let p = walking K G G.total c h in
                until_close K a b k c (inr (
                  (reached_on k c p n (all_r p)).0,
                  λ d i. settled k d (G.closed c d h i) (λ r. let q : Path (system K) c = step_then {M = system K} c i r in (reached_on k c q n (all_r q)).1),
                ))
          ]

      -- `until_by` is the until by the path meaning, with a bound
      pub until_within : (k c : ℕ) → c < K.size → T (until_by K a b k c) ↔ ((r : Path (system K) c) → ReachedBy a b k c r)
      until_within k c h = (reached k c, settled k c h)

      -- where the until holds, its rank is the least number of steps within which every path has reached its second part
      pub until_rank_time : (c k : ℕ) → c < K.size → T (until_by K a b K.size c) → (until_rank K a b c ≤ k) ↔ ((r : Path (system K) c) → ReachedBy a b k c r)
      until_rank_time c k h t = (
        (λ le r. let w = reached (until_rank K a b c) c (until_rank_holds K a b c t) r in let soon : w.0 ≤ until_rank K a b c = w.1 in (w.0, omega arith, w.2, w.3)),
        (λ all_r. elim (dec_le k K.size) [
          | yes le ↦ until_rank_le K a b c k le (settled k c h all_r)
          | no gt ↦ let top : until_rank K a b c ≤ K.size = until_rank_le K a b c K.size (omega arith) t in omega arith
        ]),
      )

  -- ---- always
  module _ (a : ℕ → Bool) where
    -- what is kept for k rounds is kept for k steps
    kept_for : (k c : ℕ) → T (always_for K a k c) → (r : Path (system K) c) (i : ℕ) → i ≤ k → T (a (r.at i))
    unfolding always_for
    kept_for zero c t r zero le = subst⁻¹ (λ (x : ℕ). T (a x)) r.begins t
    kept_for zero c t r (suc i) le = absurd (not-suc-le-zero le)
    kept_for (suc k) c t r zero le = subst⁻¹ (λ (x : ℕ). T (a x)) r.begins (always_open K a k c t).0
    kept_for (suc k) c t r (suc i) le = kept_for k (r.at 1) ((always_open K a k c t).1 (r.at 1) (first_step (system K) c r)) (rest r) i (omega arith)

    module _ (G : Serial K) where
      -- and what every path keeps for k steps is kept for k rounds
      for_kept : (k c : ℕ) → c < K.size → ((r : Path (system K) c) (i : ℕ) → i ≤ k → T (a (r.at i))) → T (always_for K a k c)
      unfolding always_for
      for_kept zero c h all_r = all_r (walking K G G.total c h) 0 (omega arith)
      for_kept (suc k) c h all_r =
          always_close K a k c
          (all_r (walking K G G.total c h) 0 (omega arith))
          (λ d i. for_kept k d (G.closed c d h i) (λ r j le. all_r (step_then {M = system K} c i r) (suc j) (omega arith)))

      -- `always_for` is the always by the path meaning, with a bound
      pub always_within : (k c : ℕ) → c < K.size → T (always_for K a k c) ↔ ((r : Path (system K) c) (i : ℕ) → i ≤ k → T (a (r.at i)))
      always_within k c h = (kept_for k c, for_kept k c h)
