-- One turn of the method. From a set X: first the positions from which the until at hand is discharged by a step into X, then, stage by stage, those from
-- which it waits for one of the stage before. The last stage is closed over X, and its positions have a step, with the stage as their rank.
use mathlib.Core.Path.{◌≡◌, refl}
use mathlib.Core.Bool.{◌||◌}
use mathlib.Core.Logic.{◌⊎◌, inl, inr, ⊎_elim}
use mathlib.Core.List.{List, Memᴰ as In}
use Prim.Native.Nat.{ℕ, zero, suc, ◌≤◌, ◌<◌}
use native.Mathlib.Omega.{arith}
use lib.Dec.{T}
use lib.ListN.{length}
use Rattle.model.specs.Sides.{Side}
use Rattle.model.specs.Joined.{Names, labelled}
use Rattle.model.specs.Formulas.{Form}
use Rattle.model.specs.Judged.{Joint, joint_moves}
use Rattle.model.specs.Waits.{first}
use Rattle.model.proofs.Bools.{or_either, or_left, or_right, T-dec}
use Rattle.model.proofs.Finite.{decide, decided, deciding, both?, not?, implies?, some?, each?, upto, in_upto, of_upto}
use Rattle.model.proofs.Value.{value}
use Rattle.model.proofs.Rounds.{Growing, steady, first_le, first_holds}
use Rattle.model.proofs.Joint.{AllRegular, targets_there}
use Rattle.model.proofs.JointMoves.{joint_listed, listed_joint}
use Rattle.model.proofs.Untils.{turn, passes_one, Untils, turn_lt}
use Rattle.model.proofs.Masks.{Masks}
use Rattle.model.proofs.Game.{Set, Can, Meets, Discharged, Closed, discharged?}
use Rattle.model.proofs.Shows.{show, same_show?}
use Rattle.model.proofs.Places.{Position, places, place, listed, numbered, every_place}
use Rattle.model.proofs.Winning.{Step, Winning}

module _ (Ss : List Side) (fs : List Form) (M : Masks fs) (U : Untils fs) where
  -- ---- the parts of a step are decided
  -- the moves, over the listed joint moves
  can? : (X : Set Ss fs M U) (s : List ℕ) (n : M.Mask) (i : ℕ) → Dec (Can Ss fs M U X s n i)
  can? X s n i =
      elim (each? (λ j. (k : Joint) × In k (joint_moves Ss s) × ((show k ≡ show j) × T (X k.targets n i))) (λ j. some? (λ k. (show k ≡ show j) × T (X k.targets n i)) (λ k. both? (same_show? (show k) (show j)) (T-dec (X k.targets n i))) (joint_moves Ss s)) (joint_moves Ss s)) [
        | yes f ↦ yes (λ es ts a. let w = f (record { events = es; targets = ts }) (joint_listed Ss s es ts a) in (w.0.events, w.0.targets, listed_joint Ss s w.0 w.1, w.2.0, w.2.1))
        | no n' ↦ no (λ g. n' (λ j h. let w = g j.events j.targets (listed_joint Ss s j h) in (record { events = w.0; targets = w.1 }, joint_listed Ss s w.0 w.1 w.2, (w.3, w.4))))
      ]

  -- the values, over the formulas
  meets? : (s : List ℕ) (m n : M.Mask) → Dec (Meets Ss fs M U s m n)
  meets? s m n =
      elim (each? (λ f. T (M.bit m f) → T (value fs (labelled Ss s) (M.bit n) f)) (λ f. implies? (T-dec (M.bit m f)) (T-dec (value fs (labelled Ss s) (M.bit n) f))) (upto (length fs))) [
        | yes g ↦ yes (λ f hf t. g f (in_upto (length fs) f hf) t)
        | no n' ↦ no (λ g. n' (λ f i t. g f (of_upto (length fs) f i) t))
      ]

  -- a step that discharges, into X
  abbrev Discharging : Set Ss fs M U → List ℕ → M.Mask → ℕ → M.Mask → Type 0
  Discharging X s m i n = Meets Ss fs M U s m n × (Discharged Ss fs M U s m n i × Can Ss fs M U X s n (turn U.count i))

  -- a step that waits, inside Z
  abbrev Waiting : Set Ss fs M U → List ℕ → M.Mask → ℕ → M.Mask → Type 0
  Waiting Z s m i n = Meets Ss fs M U s m n × ((Discharged Ss fs M U s m n i → ⊥) × Can Ss fs M U Z s n i)

  module _ (reg : AllRegular Ss) (ms : List M.Mask) (sound : (m : M.Mask) → In m ms → M.ok m) (complete : (m : M.Mask) → M.ok m → In m ms) (X : Set Ss fs M U) where
    discharging? : (s : List ℕ) (m : M.Mask) (i : ℕ) → Dec ((n : M.Mask) × In n ms × Discharging X s m i n)
    discharging? s m i = some? (Discharging X s m i) (λ n. both? (meets? s m n) (both? (discharged? Ss fs M U s m n i) (can? X s n (turn U.count i)))) ms

    waiting? : (Z : Set Ss fs M U) (s : List ℕ) (m : M.Mask) (i : ℕ) → Dec ((n : M.Mask) × In n ms × Waiting Z s m i n)
    waiting? Z s m i = some? (Waiting Z s m i) (λ n. both? (meets? s m n) (both? (not? (discharged? Ss fs M U s m n i)) (can? Z s n i))) ms

    pub stage : ℕ → Set Ss fs M U
    stage zero s m i = decide (discharging? s m i)
    stage (suc k) s m i = decide (discharging? s m i) || decide (waiting? (stage k) s m i)

    -- what a position of a stage can do
    stage_open : (k : ℕ) (s : List ℕ) (m : M.Mask) (i : ℕ) → T (stage (suc k) s m i) → ((n : M.Mask) × In n ms × Discharging X s m i n) ⊎ ((n : M.Mask) × In n ms × Waiting (stage k) s m i n)
    unfolding stage
    stage_open k s m i t =
        ⊎_elim
        (λ (d : T (decide (discharging? s m i))). inl (decided (discharging? s m i) d))
        (λ (d : T (decide (waiting? (stage k) s m i))). inr (decided (waiting? (stage k) s m i) d))
        (or_either (decide (discharging? s m i)) (decide (waiting? (stage k) s m i)) t)

    stage_first : (s : List ℕ) (m : M.Mask) (i : ℕ) → T (stage 0 s m i) → (n : M.Mask) × In n ms × Discharging X s m i n
    unfolding stage
    stage_first s m i t = decided (discharging? s m i) t

    stage_discharge : (k : ℕ) (s : List ℕ) (m : M.Mask) (i : ℕ) → (n : M.Mask) × In n ms × Discharging X s m i n → T (stage k s m i)
    unfolding stage
    stage_discharge zero s m i w = deciding (discharging? s m i) w
    stage_discharge (suc k) s m i w = or_left (decide (discharging? s m i)) (decide (waiting? (stage k) s m i)) (deciding (discharging? s m i) w)

    stage_wait : (k : ℕ) (s : List ℕ) (m : M.Mask) (i : ℕ) → (n : M.Mask) × In n ms × Waiting (stage k) s m i n → T (stage (suc k) s m i)
    unfolding stage
    stage_wait k s m i w = or_right (decide (discharging? s m i)) (decide (waiting? (stage k) s m i)) (deciding (waiting? (stage k) s m i) w)

    -- ---- as many stages as positions are enough
    module _ (outside : Position M.Mask) where
      abbrev all_places : List (Position M.Mask)
      all_places = places Ss ms U.count

      growing : Growing (length all_places) (λ k. numbered Ss ms U.count outside (stage k))
      growing =
          record {
            begins = λ c h t. stage_discharge 1 (p c).joint (p c).owed (p c).turn (stage_first (p c).joint (p c).owed (p c).turn t);
            step = λ j k in_k c h t.
                ⊎_elim
                (λ (w : (n : M.Mask) × In n ms × Discharging X (p c).joint (p c).owed (p c).turn n). stage_discharge (suc k) (p c).joint (p c).owed (p c).turn w)
                (λ (w : (n : M.Mask) × In n ms × Waiting (stage j) (p c).joint (p c).owed (p c).turn n).
                let l = listed Ss ms U.count outside c h in
                stage_wait k (p c).joint (p c).owed (p c).turn (
                  w.0,
                  w.1,
                  (
                    w.2.0,
                    (
                      w.2.1.0,
                      λ es ts a.
                          let r = w.2.1.1 es ts a in
                          let there : Names Ss r.1 = targets_there Ss reg (p c).joint l.joint_there r.0 r.1 r.2 in
                          (r.0, r.1, r.2, r.3, every_place Ss ms U.count outside (λ s m i. T (stage j s m i) → T (stage k s m i)) in_k r.1 w.0 (p c).turn there w.1 l.turn_there r.4),
                    ),
                  ),
                ))
                (stage_open j (p c).joint (p c).owed (p c).turn t);
          }
        where
          p : ℕ → Position M.Mask
          p c = place Ss ms U.count outside c

      -- the positions that are won if those of X are
      abbrev pub last : Set Ss fs M U
      last = stage (length all_places)

      in_last : (k : ℕ) (s : List ℕ) (m : M.Mask) (i : ℕ) → Names Ss s → M.ok m → i < U.count → T (stage k s m i) → T (last s m i)
      in_last k s m i hs hm hi = every_place Ss ms U.count outside (λ s m i. T (stage k s m i) → T (last s m i)) (steady (length all_places) (λ j. numbered Ss ms U.count outside (stage j)) growing k) s m i hs (complete m hm) hi

      pub closed : Closed Ss fs M U X last
      closed =
          record {
            discharge = λ s m n i ch dis can. stage_discharge (length all_places) s m i (n, complete n ch.due_ok, (ch.meets, (dis, can)));
            wait = λ s m n i ch not_yet can. in_last (suc (length all_places)) s m i ch.there ch.owed_ok ch.turn_ok (stage_wait (length all_places) s m i (n, complete n ch.due_ok, (ch.meets, (not_yet, can))));
          }

      -- ---- where X lies inside the last stage, its positions win
      module _ (inside : (s : List ℕ) (m : M.Mask) (i : ℕ) → Names Ss s → M.ok m → i < U.count → T (X s m i) → T (last s m i)) where
        rank : List ℕ → M.Mask → ℕ → ℕ
        rank s m i = first (λ k. stage k s m i) (length all_places)

        module _ (s : List ℕ) (m : M.Mask) (i : ℕ) (hs : Names Ss s) (hm : M.ok m) (hi : i < U.count) where
          discharge_step : (n : M.Mask) × In n ms × Discharging X s m i n → Step Ss fs M U last rank s m i
          discharge_step w =
              record {
                due = w.0;
                due_ok = sound w.0 w.1;
                pointer = turn U.count i;
                pointer_ok = turn_lt U.count i hi;
                meets = w.2.0;
                answer = λ es ts a.
                    let r = w.2.1.1 es ts a in
                    record {
                      events = r.0;
                      targets = r.1;
                      leads = r.2;
                      showing = r.3;
                      wins = inside r.1 w.0 (turn U.count i) (targets_there Ss reg s hs r.0 r.1 r.2) (sound w.0 w.1) (turn_lt U.count i hi) r.4;
                      moves = inl (passes_one U.count (Discharged Ss fs M U s m w.0) i w.2.1.0);
                    };
              }

          wait_step : (k : ℕ) → rank s m i ≡ suc k → suc k ≤ length all_places → (n : M.Mask) × In n ms × Waiting (stage k) s m i n → Step Ss fs M U last rank s m i
          unfolding rank
          wait_step k e le w =
              record {
                due = w.0;
                due_ok = sound w.0 w.1;
                pointer = i;
                pointer_ok = hi;
                meets = w.2.0;
                answer = λ es ts a.
                    let r = w.2.1.1 es ts a in
                    let lower : first (λ j. stage j r.1 w.0 i) (length all_places) ≤ k = first_le (λ j. stage j r.1 w.0 i) (length all_places) k (omega arith) r.4 in
                    record {
                      events = r.0;
                      targets = r.1;
                      leads = r.2;
                      showing = r.3;
                      wins = in_last k r.1 w.0 i (targets_there Ss reg s hs r.0 r.1 r.2) (sound w.0 w.1) hi r.4;
                      moves = inr (refl, omega arith);
                    };
              }

          step_at : (k : ℕ) → rank s m i ≡ k → k ≤ length all_places → T (stage k s m i) → Step Ss fs M U last rank s m i
          step_at zero e le t = discharge_step (stage_first s m i t)
          step_at (suc k) e le t =
              ⊎_elim
              (λ (w : (n : M.Mask) × In n ms × Discharging X s m i n). discharge_step w)
              (λ (w : (n : M.Mask) × In n ms × Waiting (stage k) s m i n). wait_step k e le w)
              (stage_open k s m i t)

        pub winning : Winning Ss fs M U last
        unfolding rank
        winning =
            record {
              rank = rank;
              step = λ s m i hs hm hi t.
                  step_at s m i hs hm hi (rank s m i) refl
                  (first_le (λ k. stage k s m i) (length all_places) (length all_places) (omega arith) t)
                  (first_holds (λ k. stage k s m i) (length all_places) t);
            }
