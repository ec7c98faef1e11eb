-- Where no side is input, what is shown tells the joint move. So there "every joint move" asks the same of a converter state as "exactly one for each thing
-- shown", and as "one or more" where no side is delayed either: an input side more asks for nothing new.
use mathlib.Core.Path.{◌≡◌, refl, sym, ap, ◌∙◌}
use mathlib.Core.Bool.{true, cond}
use mathlib.Core.Logic.Iff
use mathlib.Core.Logic.{◌↔◌}
use mathlib.Core.List.{List, [], ◌∷◌, ◌++◌, Memᴰ as In}
use Prim.Native.Nat.{ℕ, ◌<◌}
use native.Mathlib.Omega.{arith}
use lib.Dec.{T}
use lib.ListN.{length}
use Rattle.model.specs.Events.{Event, duals, shows}
use Rattle.model.specs.Sides.{Side, Kind, input, output_only, delayed}
use Rattle.model.specs.Joined.{Names, kinds_of, JointMove}
use Rattle.model.specs.Converters.{Edge, Node, no_edge, edge, side_events, every, one_each, some, any_input, any_delayed, duty, Fulfils}
use Rattle.model.proofs.Bools.{T-dec, T_true, T_false}
use Rattle.model.proofs.Lists.{get_or_in}
use Rattle.model.proofs.Joint.{AllRegular, duals_duals, some_joint, by_shows, same_shows}
use Rattle.model.proofs.Alone.{DutyOf, is_every, is_one_each, is_some, duty_of}

-- each transition of a node carries a joint move
abbrev pub Follows : List Side → Node → Type 0
Follows Ss n = (e : Edge) → In e n.edges → (ts : List ℕ) × JointMove Ss n.names (side_events e) ts

-- and none stands twice
abbrev pub Once : Node → Type 0
Once n = (j k : ℕ) → j < length n.edges → k < length n.edges → (edge n j).events ≡ (edge n k).events → j ≡ k

-- ---- the duty of kinds with an input one behind them
input_behind : (ks : List Kind) → any_input (ks ++ (input ∷ [])) ≡ true
unfolding any_input
input_behind [] = refl
input_behind (input ∷ ks) = refl
input_behind (output_only ∷ ks) = input_behind ks
input_behind (delayed ∷ ks) = input_behind ks

delayed_behind : (ks : List Kind) → any_delayed (ks ++ (input ∷ [])) ≡ any_delayed ks
unfolding any_delayed
delayed_behind [] = refl
delayed_behind (input ∷ ks) = delayed_behind ks
delayed_behind (output_only ∷ ks) = delayed_behind ks
delayed_behind (delayed ∷ ks) = refl

duty_behind : (ks : List Kind) → duty (ks ++ (input ∷ [])) ≡ cond (any_delayed ks) one_each some
unfolding duty
duty_behind ks = simp (input_behind ks, delayed_behind ks)

module _ (Ss : List Side) (reg : AllRegular Ss) (n : Node) (hs : Names Ss n.names) (once : Once n) (follows : Follows Ss n) where
  abbrev ks : List Kind
  ks = kinds_of Ss n.names

  module _ (no_input : T (any_input ks) → ⊥) where
    -- a transition that shows what a joint move shows is that move
    told : (j : ℕ) → j < length n.edges → (es : List Event) (ts : List ℕ) → JointMove Ss n.names es ts
        → shows (side_events (edge n j)) ≡ shows es → side_events (edge n j) ≡ es
    told j h es ts a g =
        let w = follows (edge n j) (get_or_in n.edges j no_edge h) in
        by_shows Ss reg n.names hs no_input (side_events (edge n j)) es w.0 ts w.1 a g

    every_one_each : Fulfils every Ss n ↔ Fulfils one_each Ss n
    every_one_each = (
      (λ f es ts a.
          let w = f es ts a in (
            w.0,
            w.1,
            ap shows w.2,
            λ k h g.
                let same : side_events (edge n k) ≡ side_events (edge n w.0) = told k h es ts a g ∙ sym w.2 in
                once k w.0 h w.1 (sym (duals_duals (edge n k).events) ∙ ap duals same ∙ duals_duals (edge n w.0).events),
          )),
      (λ f es ts a. let w = f es ts a in (w.0, w.1, told w.0 w.1 es ts a w.2)),
    )

    every_some : (T (any_delayed ks) → ⊥) → Fulfils every Ss n ↔ Fulfils some Ss n
    every_some no_delayed = (
      (λ f.
          let a = some_joint Ss reg n.names hs in
          let w = f a.0 a.1 a.2 in
          let h : w.0 < length n.edges = w.1 in
          omega arith),
      (λ h es ts a.
          let w = follows (edge n 0) (get_or_in n.edges 0 no_edge h) in
          (0, h, told 0 h es ts a (same_shows Ss reg n.names hs no_delayed (side_events (edge n 0)) es w.0 ts w.1 a))),
    )

  -- an input kind behind those of the sides asks for nothing else
  pub input_more : Fulfils (duty ks) Ss n ↔ Fulfils (duty (ks ++ (input ∷ []))) Ss n
  input_more = rw (duty_behind ks) (by (duty_of ks) (T-dec (any_delayed ks)))
    where
      by : DutyOf ks → Dec (T (any_delayed ks)) → Fulfils (duty ks) Ss n ↔ Fulfils (cond (any_delayed ks) one_each some) Ss n
      by (is_every d none) (yes y) = rw (d, T_true (any_delayed ks) y) (every_one_each none)
      by (is_every d none) (no x) = rw (d, T_false (any_delayed ks) x) (every_some none x)
      by (is_one_each d i y) w = rw (d, T_true (any_delayed ks) y) Iff.rfl
      by (is_some d i x) w = rw (d, T_false (any_delayed ks) x) Iff.rfl
