-- `Store::negate` meets its contract.
use mathlib.Core.Path.{◌≡◌, refl, sym, ap, ◌∙◌}
use mathlib.Core.List.{List}
use Prim.Native.Nat.{ℕ, suc, min, ◌+◌, ◌-◌, ◌*◌, ◌≤◌, ◌<◌}
use native.Mathlib.Omega.{arith}
use lib.ListN.{set}
use Rattle.layout.specs.Sizes.{most_formulas}
use Rattle.layout.specs.Bytes.{byte}
use Rattle.rules.specs.Making.{turned_from, opposite_kind}
use Rattle.rules.proofs.records.Store.negate.Goals as goal

module _ (rs : List ℕ) (to i : ℕ) where
  one_turned : (v : ℕ) → v ≡ opposite_kind (byte rs (4 * i)) → i < min to most_formulas → to ≤ most_formulas
      → turned_from rs i (to - i) ≡ turned_from (set rs (4 * i) v) (i + 1) (to - (i + 1))
  unfolding turned_from
  one_turned v e l m =
      let n : to - i ≡ suc (to - (i + 1)) = omega arith in
      ap (turned_from rs i) n ∙ ap (λ (k : ℕ). turned_from (set rs (4 * i) k) (i + 1) (to - (i + 1))) (sym e)

  all_turned : min to most_formulas ≤ i → to ≤ most_formulas → turned_from rs i (to - i) ≡ rs
  unfolding turned_from
  all_turned l m = let n : to - i ≡ 0 = omega arith in ap (turned_from rs i) n

pub loop-i-init : goal.loop-i-init
loop-i-init c = record { same = λ m. refl; counted = refl; pending = refl; height = refl }

pub loop-i-preserved : goal.loop-i-preserved
loop-i-preserved c =
    let l = c.loop-i in
    let n = l.invariant in
    record {
      same = λ m. n.same m ∙ one_turned l.self.records c.args.self.now.count l.i c.opposite.result c.opposite.ensures (omega arith) m;
      counted = n.counted;
      pending = n.pending;
      height = n.height;
    }

pub returns : goal.returns
returns c =
    let l = c.loop-i in
    let n = l.invariant in
    record {
      turned = λ m. sym (n.same m ∙ all_turned l.self.records c.args.self.now.count l.i (omega arith) m);
      counted = n.counted;
      pending = n.pending;
      height = n.height;
    }
