-- What the call promises, in the model's words. "Done" exactly when nothing is refused: then the front of the lent bytes is a design that is not refused, whose sides run
-- as the ranges allow those of the old one, with the same formulas and rules; and what stands behind is as it was. A refusal is the first test's that fails, and leaves
-- every lent byte.
use mathlib.Core.Path.{◌≡◌, refl, sym, ap, subst⁻¹, ◌∙◌}
use mathlib.Core.Logic.{◌↔◌}
use mathlib.Core.List.{List, []}
use Prim.Native.Nat.{ℕ, ◌+◌, ◌*◌, ◌≤◌, ◌<◌}
use native.Mathlib.Decide.{ℕ_discrete}
use native.Mathlib.Omega.{arith}
use lib.ListN.{length, drop}
use Rattle.model.specs.Events.{Event}
use Rattle.model.specs.Ranges.{Takes, TakesUnder, entered}
use Rattle.layout.specs.Sizes.{side_count, block_bytes}
use Rattle.layout.specs.Bytes.{byte, part, put}
use Rattle.layout.specs.Designs.{held, design, side}
use Rattle.layout.proofs.Parts.{part_part}
use Rattle.layout.proofs.Put.{length_put, drop_put}
use Rattle.layout.proofs.Sealed.{part_put}
use Rattle.refusals.specs.Refusals.{design_refusal}
use Rattle.refusals.proofs.ByRefusal.{where_none, where_some}
use Rattle.std.specs.Prelude.{Result, Ok, Err}
use Rattle.refusals.specs.declared.refusal.Refusal.{Refusal}
use Rattle.refusals.specs.Answered.{Answer, done, refused, answered, number}
use Rattle.refusals.proofs.Answered.{by_done}
use Rattle.ranges.specs.Entries.{side_ranges}
use Rattle.ranges.specs.Ranges.{ranges_refusal, ranged_design, Ranges}
use Rattle.ranges.proofs.Refused.{passes}
use Rattle.ranges.proofs.NewBlocks.{same_length, new_block, new_room, same_forms, same_rules}
use Rattle.ranges.proofs.NewDesign.{not_refused, runs_allowed}
use Rattle.ranges.proofs.KeptBlocks.{block_kept, empty_copies}

-- ---- which answer it gives
module _ (ds es before : List ℕ) (a : Result (Unit {0}) Refusal) (after : List ℕ) (p : Ranges ds es before a after) where
  abbrev refusal : ℕ
  refusal = ranges_refusal ds es (length before)

  goes_on : refusal ≡ 0 → answered a ≡ done tt
  goes_on e = p.answers ∙ where_none refusal (done tt) (refused refusal) e

  stops : (refusal ≡ 0 → ⊥) → answered a ≡ refused refusal
  stops n = p.answers ∙ where_some refusal (done tt) (refused refusal) n

  pub says_done : (a ≡ Ok tt) ↔ (ranges_refusal ds es (length before) ≡ 0)
  says_done = ((λ e. elim (ℕ_discrete refusal 0) [ yes z ↦ z | no n ↦ absurd (apart (sym (ap answered e) ∙ stops n)) ]), λ z. by_done a tt (goes_on z))
    where
      apart : ◌≡◌ {A = Answer (Unit {0})} (done tt) (refused refusal) → ⊥
      apart e = let z : ◌≡◌ {A = ℕ} 0 1 = cc in omega arith

  pub says_refused : (k : ℕ) → (answered a ≡ refused k) ↔ ((ranges_refusal ds es (length before) ≡ k) × (k ≡ 0 → ⊥))
  says_refused k = (
    (λ e. elim (ℕ_discrete refusal 0) [ yes z ↦ absurd (apart (sym e ∙ goes_on z)) | no n ↦ let f = sym (stops n) ∙ e in (same f, λ z. n (same f ∙ z)) ]),
    λ w. stops (λ z. w.1 (sym w.0 ∙ z)) ∙ ap refused w.0,
  )
    where
      apart : ◌≡◌ {A = Answer (Unit {0})} (refused k) (done tt) → ⊥
      apart e = let z : ◌≡◌ {A = ℕ} 0 1 = cc in omega arith

      same : ◌≡◌ {A = Answer (Unit {0})} (refused refusal) (refused k) → refusal ≡ k
      same e = cc

-- ---- done
module _ (ds es before after : List ℕ) (p : Ranges ds es before (Ok tt) after) where
  pub nothing_refused : ranges_refusal ds es (length before) ≡ 0
  nothing_refused = (says_done ds es before (Ok tt) after p).0 refl

  pub written : after ≡ put before 0 (ranged_design ds es)
  written = p.leaves ∙ where_none (ranges_refusal ds es (length before)) (put before 0 (ranged_design ds es)) before nothing_refused

  -- it is as long as the old one, and has room
  long : length (ranged_design ds es) ≡ length ds
  long = same_length ds es (length before) nothing_refused

  roomy : 0 + length (ranged_design ds es) ≤ length before
  roomy = omega (arith, long, (passes ds es (length before) nothing_refused).roomy)

  pub result_is : part after 0 (length ds) ≡ ranged_design ds es
  result_is = ap (λ n. part after 0 n) (sym long) ∙ ap (λ l. part l 0 (length (ranged_design ds es))) written ∙ part_put (ranged_design ds es) before 0 roomy

  -- behind it
  pub as_it_was : drop (length ds) after ≡ drop (length ds) before
  as_it_was =
      let z : length ds ≡ 0 + length (ranged_design ds es) = omega (arith, long) in
      ap (λ n. drop n after) z ∙ ap (drop (0 + length (ranged_design ds es))) written ∙ drop_put (ranged_design ds es) before 0 roomy ∙ ap (λ n. drop n before) (sym z)

  -- ---- what the result is
  pub result_passes : design_refusal (part after 0 (length ds)) ≡ 0
  result_passes = ap design_refusal result_is ∙ not_refused ds es (length before) nothing_refused

  pub result_runs : (i : ℕ) → i < side_count → (evs : List Event) (ws : List ℕ)
      → Takes (side (design (part after 0 (length ds))) i) 0 evs ws ↔ TakesUnder (side (design ds) i) (side_ranges es i) (entered 0) evs ws
  result_runs i h evs ws =
      subst⁻¹ (λ (l : List ℕ). Takes (side (design l) i) 0 evs ws ↔ TakesUnder (side (design ds) i) (side_ranges es i) (entered 0) evs ws) result_is
      (runs_allowed ds es (length before) nothing_refused i h evs ws)

  pub result_forms : (design (part after 0 (length ds))).forms ≡ (design ds).forms
  result_forms = ap (λ (l : List ℕ). (design l).forms) result_is ∙ same_forms ds es (length before) nothing_refused

  pub result_rules : (design (part after 0 (length ds))).rules ≡ (design ds).rules
  result_rules = ap (λ (l : List ℕ). (design l).rules) result_is ∙ same_rules ds es (length before) nothing_refused

  -- a side without an entry keeps its block, byte for byte
  pub side_kept : ((i : ℕ) → byte ds i < 256) → (i : ℕ) → i < held ds → side_ranges es i ≡ [] → part after (block_bytes * i) block_bytes ≡ part ds (block_bytes * i) block_bytes
  side_kept bytes i l none =
      let room = length before in
      let front : block_bytes * i ≡ 0 + block_bytes * i = omega arith in
      let fits : block_bytes * i + block_bytes ≤ length ds = omega (arith, long, new_room ds es room nothing_refused i l) in
      let same : length after ≡ length before = ap length written ∙ length_put (ranged_design ds es) before 0 roomy in
      ap (λ at. part after at block_bytes) front
      ∙ sym (part_part after 0 (length ds) (block_bytes * i) block_bytes (omega (arith, long, roomy)) fits)
      ∙ ap (λ b. part b (block_bytes * i) block_bytes) result_is
      ∙ new_block ds es room nothing_refused i l
      ∙ block_kept ds bytes (passes ds es room nothing_refused).designed i l es none

-- with no entry it is the old design
pub copied : (ds before after : List ℕ) → Ranges ds [] before (Ok tt) after → ((i : ℕ) → byte ds i < 256) → part after 0 (length ds) ≡ ds
copied ds before after p bytes = result_is ds [] before after p ∙ empty_copies ds bytes (passes ds [] (length before) (nothing_refused ds [] before after p)).designed

-- ---- refused
module _ (ds es before after : List ℕ) (e : Refusal) (p : Ranges ds es before (Err e) after) where
  pub refused_by : (ranges_refusal ds es (length before) ≡ number e) × (number e ≡ 0 → ⊥)
  refused_by = (says_refused ds es before (Err e) after p (number e)).0 refl

  pub nothing_written : after ≡ before
  nothing_written =
      p.leaves ∙ where_some (ranges_refusal ds es (length before)) (put before 0 (ranged_design ds es)) before (λ z. refused_by.1 (sym refused_by.0 ∙ z))
