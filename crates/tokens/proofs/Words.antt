-- The letters and digits at the front of what is left of a text, and what stands behind them, by how many there are.
use mathlib.Core.Path.{◌≡◌, refl, sym, ap, ◌∙◌}
use mathlib.Core.Bool.{Bool, true, false, cond}
use mathlib.Core.List.{List, [], ◌∷◌}
use Prim.Native.Nat.{ℕ, suc, ◌+◌, ◌-◌, ◌≤◌, ◌<◌}
use native.Mathlib.Omega.{arith}
use lib.ListN.{length, take, drop}
use Rattle.std.proofs.Math.Seq.{take-length}
use Rattle.std.specs.List.{prefix_len}
use Rattle.std.proofs.Common.{length-drop}
use Rattle.std.proofs.lemmas.List.{drop-drop}
use Rattle.std.proofs.lemmas.List.Sums.{prefix_len-le-length}
use Rattle.layout.specs.Bytes.{byte, part}
use Rattle.tokens.specs.Tokens.{worded, run, behind_run}
use Rattle.tokens.specs.Scans.{WordEnd}
use Rattle.tokens.proofs.Places.{left_more}

-- ---- one after another
-- one more of those that pass, or none
taken_step : (passes : Bool) (b n : ℕ) (s w : List ℕ) → w ≡ take n s → cond passes (b ∷ w) [] ≡ take (cond passes (1 + n) 0) (b ∷ s)
taken_step true b n s w e = let one : 1 + n ≡ suc n = omega arith in rw one (ap (λ l. b ∷ l) e)
taken_step false b n s w e = refl

left_step : (passes : Bool) (b n : ℕ) (s w : List ℕ) → w ≡ drop n s → cond passes w (b ∷ s) ≡ drop (cond passes (1 + n) 0) (b ∷ s)
left_step true b n s w e = let one : 1 + n ≡ suc n = omega arith in rw one e
left_step false b n s w e = refl

run_is : (s : List ℕ) → run s ≡ take (prefix_len worded s) s
unfolding run
run_is [] = refl
run_is (b ∷ s) = taken_step (worded b) b _ s _ (run_is s)

behind_run_is : (s : List ℕ) → behind_run s ≡ drop (prefix_len worded s) s
unfolding behind_run
behind_run_is [] = refl
behind_run_is (b ∷ s) = left_step (worded b) b _ s _ (behind_run_is s)

-- ---- from a place on
-- what is left, as the code cuts it
pub rest_is : (text : List ℕ) (at : ℕ) → take (length text - at) (drop at text) ≡ drop at text
rest_is text at = ap (λ n. take n (drop at text)) (sym (length-drop at text)) ∙ take-length (drop at text)

module _ (text : List ℕ) (at k : ℕ) (h : at ≤ length text) where
  pub word_passed : k ≡ prefix_len worded (drop at text) → WordEnd text at (at + k)
  word_passed e =
      let n : at + k - at ≡ prefix_len worded (drop at text) = omega (arith, e) in
      record {
        place = record { onward = omega arith; inside = omega (arith, prefix_len-le-length worded (drop at text), length-drop at text) };
        word = ap (part text at) n ∙ sym (run_is (drop at text));
        left = sym (behind_run_is (drop at text) ∙ ap (λ n. drop n (drop at text)) (sym e) ∙ drop-drop k at text);
      }

-- ---- by the byte at a place
-- a letter or a digit is the word's first
pub run_more : (text : List ℕ) (at : ℕ) → at < length text → worded (byte text at) ≡ true → run (drop at text) ≡ byte text at ∷ run (drop (at + 1) text)
unfolding run
run_more text at h e = ap run (left_more text at h) ∙ rw e
