-- A rule that 20 doesn't refuse holds, as the formula that is made of it, exactly where it is true as it stands: what is under a negation or left of an arrow is untimed, and so settled at
-- each state.
use mathlib.Core.Path.{◌≡◌, refl}
use mathlib.Core.Bool.{Bool, true, false, not, ◌||◌, true≢false}
use mathlib.Core.Logic.Iff
use mathlib.Core.Logic.{◌↔◌, ◌⊎◌, inl, inr, ⊎_elim, ⊎_map}
use borrow.Author.Tests.{not-true}
use lib.Dec.{T}
use Rattle.model.specs.Actl.{System, Holds}
use Rattle.tokens.specs.declared.Quantifier.TheVariants.{All, Some}
use Rattle.tokens.specs.declared.Operator.TheVariants.{Next, Always, Eventually}
use Rattle.typed.specs.Grammar.{Typed, named, constant, negated, along, until, and, or, implies}
use Rattle.typed.specs.Meaning.{Means}
use Rattle.typed.specs.Records.{some_path, timed, misplaced, universal, at_steps, pushed, formula_for}

-- neither of two tests holds
neither : (x y : Bool) → (x || y) ≡ false → (x ≡ false) × (y ≡ false)
neither true y e = absurd (true≢false e)
neither false y e = (refl, e)

-- of a rule: A holds and what it says, C, is so; or B holds, which is made of its negation, and C isn't so
abbrev Settled : Type 0 → Type 0 → Type 0 → Type 0
Settled A B C = (A × C × (B → ⊥)) ⊎ (B × (C → ⊥) × (A → ⊥))

-- a name, by whether the state has the label
by_label : (b : Bool) → Settled (T b) (T (not b)) (T b)
by_label true = inl (tt, tt, λ x. x)
by_label false = inr (tt, (λ x. x), (λ x. x))

-- the negation of what is settled is settled
swapped : {A B C : Type 0} → Settled A B C → Settled B A (C → ⊥)
swapped (inl x) = inr (x.0, (λ n. n x.1), x.2)
swapped (inr x) = inl (x.0, x.1, x.2)

-- two joined by and
settled_and : {A B C A' B' C' : Type 0} → Settled A B C → Settled A' B' C' → Settled (A × A') (B ⊎ B') (C × C')
settled_and (inl x) (inl y) = inl ((x.0, y.0), (x.1, y.1), λ u. ⊎_elim x.2 y.2 u)
settled_and (inl x) (inr y) = inr (inr y.0, (λ u. y.1 u.1), (λ u. y.2 u.1))
settled_and (inr x) y = inr (inl x.0, (λ u. x.1 u.0), (λ u. x.2 u.0))

-- by or
settled_or : {A B C A' B' C' : Type 0} → Settled A B C → Settled A' B' C' → Settled (A ⊎ A') (B × B') (C ⊎ C')
settled_or (inl x) y = inl (inl x.0, inl x.1, λ u. x.2 u.0)
settled_or (inr x) (inl y) = inl (inr y.0, inr y.1, λ u. y.2 u.1)
settled_or (inr x) (inr y) = inr ((x.0, y.0), (λ u. ⊎_elim x.1 y.1 u), (λ u. ⊎_elim x.2 y.2 u))

-- by an arrow
settled_implies : {A B C A' B' C' : Type 0} → Settled A B C → Settled A' B' C' → Settled (B ⊎ A') (A × B') (C → C')
settled_implies (inl x) (inl y) = inl (inr y.0, (λ c. y.1), λ u. y.2 u.1)
settled_implies (inl x) (inr y) = inr ((x.0, y.0), (λ u. y.1 (u x.1)), (λ u. ⊎_elim x.2 y.2 u))
settled_implies (inr x) y = inl (inl x.0, (λ c. absurd (x.1 c)), λ u. x.2 u.0)

-- where a rule is settled its formula says the same as it does
decided : {A B C : Type 0} → Settled A B C → A ↔ C
decided (inl x) = ((λ a. x.1), (λ c. x.0))
decided (inr x) = ((λ a. absurd (x.2 a)), (λ c. absurd (x.1 c)))

-- and so does an arrow from it to whatever says the same
decided_implies : {A B C A' C' : Type 0} → Settled A B C → A' ↔ C' → (B ⊎ A') ↔ (C → C')
decided_implies (inl x) p = ((λ u c. ⊎_elim (λ b. absurd (x.2 b)) p.0 u), (λ h. inr (p.1 (h x.1))))
decided_implies (inr x) p = ((λ u c. absurd (x.1 c)), (λ h. inl x.0))

module _ (M : System) where
  -- an untimed rule is settled at every state
  settled : (f : Typed) → timed f ≡ false → (s : M.State) → Settled (Holds M (pushed true f) s) (Holds M (pushed false f) s) (Means M f s)
  unfolding timed pushed
  settled (named p) e s = by_label (M.labelled s p)
  settled (constant true) e s = inl (tt, tt, λ x. x)
  settled (constant false) e s = inr (tt, (λ x. x), (λ x. x))
  settled (negated f) e s = swapped (settled f e s)
  settled (along q o f) e s = absurd (true≢false e)
  settled (until q f g) e s = absurd (true≢false e)
  settled (and f g) e s = let n = neither (timed f) (timed g) e in settled_and (settled f n.0 s) (settled g n.1 s)
  settled (or f g) e s = let n = neither (timed f) (timed g) e in settled_or (settled f n.0 s) (settled g n.1 s)
  settled (implies f g) e s = let n = neither (timed f) (timed g) e in settled_implies (settled f n.0 s) (settled g n.1 s)

  -- a rule with no temporal part on some path, and none misplaced
  said : (f : Typed) → some_path f ≡ false → misplaced f ≡ false → (s : M.State) → Holds M (formula_for f) s ↔ Means M f s
  unfolding some_path misplaced pushed at_steps
  said (named p) e m s = Iff.rfl
  said (constant true) e m s = Iff.rfl
  said (constant false) e m s = Iff.rfl
  said (negated f) e m s = decided (swapped (settled f (neither (timed f) (misplaced f) m).0 s))
  said (along All Next f) e m s =
      let p = said f e m in
      ((λ h r. (p (r.at 1)).0 (h r)), (λ h r. (p (r.at 1)).1 (h r)))
  said (along All Always f) e m s =
      let p = said f e m in
      ((λ h r i. (p (r.at i)).0 (h r i)), (λ h r i. (p (r.at i)).1 (h r i)))
  said (along All Eventually f) e m s =
      let p = said f e m in
      ((λ h r. let w = h r in (w.0, (p (r.at w.0)).0 w.1)), (λ h r. let w = h r in (w.0, (p (r.at w.0)).1 w.1, λ i l. tt)))
  said (along Some o f) e m s = absurd (true≢false e)
  said (until All f g) e m s =
      let x = neither (some_path f) (some_path g) e in
      let y = neither (misplaced f) (misplaced g) m in
      let p = said f x.0 y.0 in
      let q = said g x.1 y.1 in (
        (λ h r. let w = h r in (w.0, (q (r.at w.0)).0 w.1, λ i l. (p (r.at i)).0 (w.2 i l))),
        (λ h r. let w = h r in (w.0, (q (r.at w.0)).1 w.1, λ i l. (p (r.at i)).1 (w.2 i l))),
      )
  said (until Some f g) e m s = absurd (true≢false e)
  said (and f g) e m s =
      let x = neither (some_path f) (some_path g) e in
      let y = neither (misplaced f) (misplaced g) m in
      Iff.and (said f x.0 y.0 s) (said g x.1 y.1 s)
  said (or f g) e m s =
      let x = neither (some_path f) (some_path g) e in
      let y = neither (misplaced f) (misplaced g) m in
      let p = said f x.0 y.0 s in
      let q = said g x.1 y.1 s in
      (⊎_map p.0 q.0, ⊎_map p.1 q.1)
  said (implies f g) e m s =
      let x = neither (some_path f) (some_path g) e in
      let y = neither (timed f) (misplaced f || misplaced g) m in
      let z = neither (misplaced f) (misplaced g) y.1 in
      decided_implies (settled f y.0 s) (said g x.1 z.1 s)

  -- a rule that 20 doesn't refuse means what its formula does
  pub meant : (f : Typed) → universal f ≡ true → (s : M.State) → Holds M (formula_for f) s ↔ Means M f s
  unfolding universal
  meant f u =
      let n = neither (some_path f) (misplaced f) (not-true (some_path f || misplaced f) u) in
      said f n.0 n.1
