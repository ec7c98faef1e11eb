-- Specification, "Formulas": ACTL and its path meaning (Clarke, Emerson), over infinite paths of a transition system.
use Rattle.std.specs.Prelude.{◌≡◌, Bool, not, ◌⊎◌, ℕ, suc, ◌<◌, T}

pub data Actl : Type 0 where
  verum falsum : Actl
  has lacks : ℕ → Actl
  both either : Actl → Actl → Actl
  AX : Actl → Actl
  AU : Actl → Actl → Actl
  AG : Actl → Actl

pub record System : Type 1 where
  pub State : Type 0
  pub Step : State → State → Type 0
  pub labelled : State → ℕ → Bool

-- an infinite path from s
pub record Path (M : System) (s : M.State) : Type 0 where
  pub at : ℕ → M.State
  pub begins : at 0 ≡ s
  pub steps : (k : ℕ) → M.Step (at k) (at (suc k))

-- A(a U b): on every path b holds at some step j, the first step included, and a at every step before.
abbrev pub Holds : (M : System) → Actl → M.State → Type 0
Holds M verum s = Unit {0}
Holds M falsum s = ⊥
Holds M (has p) s = T (M.labelled s p)
Holds M (lacks p) s = T (not (M.labelled s p))
Holds M (both a b) s = Holds M a s × Holds M b s
Holds M (either a b) s = Holds M a s ⊎ Holds M b s
Holds M (AX a) s = (r : Path M s) → Holds M a (r.at 1)
Holds M (AU a b) s = (r : Path M s) → (j : ℕ) × Holds M b (r.at j) × ((i : ℕ) → i < j → Holds M a (r.at i))
Holds M (AG a) s = (r : Path M s) → (i : ℕ) → Holds M a (r.at i)
