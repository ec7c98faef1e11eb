-- Specification, "Rules as people type them": what a typed rule means, over infinite paths of a transition system, with ! and -> as they stand (Clarke, Emerson).
use Rattle.std.specs.Prelude.{◌⊎◌, ℕ, ◌<◌, T}
use Rattle.model.specs.Actl.{System, Path}
use Rattle.tokens.specs.declared.Quantifier.TheVariants.{All, Some}
use Rattle.tokens.specs.declared.Operator.TheVariants.{Next, Always, Eventually}
use Rattle.typed.specs.Grammar.{Typed, named, constant, negated, along, until, and, or, implies}

abbrev pub Means : (M : System) → Typed → M.State → Type 0
Means M (named p) s = T (M.labelled s p)
Means M (constant b) s = T b
Means M (negated f) s = Means M f s → ⊥
Means M (along All Next f) s = (r : Path M s) → Means M f (r.at 1)
Means M (along All Always f) s = (r : Path M s) → (i : ℕ) → Means M f (r.at i)
Means M (along All Eventually f) s = (r : Path M s) → (j : ℕ) × Means M f (r.at j)
Means M (along Some Next f) s = (r : Path M s) × Means M f (r.at 1)
Means M (along Some Always f) s = (r : Path M s) × ((i : ℕ) → Means M f (r.at i))
Means M (along Some Eventually f) s = (r : Path M s) × (j : ℕ) × Means M f (r.at j)
Means M (until All f g) s = (r : Path M s) → (j : ℕ) × Means M g (r.at j) × ((i : ℕ) → i < j → Means M f (r.at i))
Means M (until Some f g) s = (r : Path M s) × (j : ℕ) × Means M g (r.at j) × ((i : ℕ) → i < j → Means M f (r.at i))
Means M (and f g) s = Means M f s × Means M g s
Means M (or f g) s = Means M f s ⊎ Means M g s
Means M (implies f g) s = Means M f s → Means M g s
