-- What the search's promise says to its caller: when the answer is 16, and what stands in the table where a converter is found.
use mathlib.Core.Path.{◌≡◌, refl, sym, ap, subst⁻¹, ◌∙◌}
use mathlib.Core.Logic.{◌↔◌}
use mathlib.Core.List.{List}
use Prim.Native.Nat.{ℕ, ◌*◌, ◌≤◌, ◌<◌}
use native.Mathlib.Omega.{arith}
use lib.ListN.{length, take, drop}
use lib.Seq.{take_at}
use Rattle.model.specs.Designs.{Design, Works, NoneWorks}
use Rattle.model.specs.Positions.{positions}
use Rattle.layout.specs.Sizes.{record_bytes}
use Rattle.layout.specs.Bytes.{put}
use Rattle.layout.specs.Designs.{design}
use Rattle.layout.specs.Converters.{records, converter}
use Rattle.refusals.specs.Refusals.{design_refusal, converter_refusal}
use Rattle.layout.proofs.Put.{length_put}
use Rattle.refusals.proofs.Accepted.{accepted}
use Rattle.std.specs.Prelude.{Result, Ok}
use Rattle.refusals.specs.declared.refusal.Refusal.{Refusal}
use Rattle.refusals.specs.Answered.{Answer, done, refused, answered}
use Rattle.search.specs.Search.{search_refusal, Finding, declined, none, found, answer_of, table_of, Searches}
use Rattle.search.proofs.Refused.{taken, refusal_below}
use Rattle.search.proofs.Found.{at_front}

module _ {k : ℕ} {D : Design} where
  -- ---- 16
  none_then : (F : Finding k D) → k < 16 → answer_of F ≡ refused 16 → (k ≡ 0) × NoneWorks D
  none_then (declined n) l e = let z : k ≡ 16 = cc in absurd (omega arith)
  none_then (none z w) l e = (z, w)
  none_then (found z cs few right works) l e = let c : ◌≡◌ {A = ℕ} 0 1 = cc in absurd (omega arith)

  -- a converter that works keeps every rule, so none is failed
  then_none : (F : Finding k D) → k ≡ 0 → NoneWorks D → answer_of F ≡ refused 16
  then_none (declined n) z w = absurd (n z)
  then_none (none z w) _ _ = refl
  then_none (found z cs few right works) _ w = let f = w (converter cs) works.matched in absurd (f.2 (works.keeps f.0 f.1))

-- ---- a count: so many records stand at the front of the table
pub record FoundIn (ds table : List ℕ) (n : ℕ) : Type 0 where
  pub accepted : design_refusal ds ≡ 0
  pub few : n ≤ positions (design ds)
  pub fits : record_bytes * n ≤ length table
  pub counts : records (take (record_bytes * n) table) ≡ n
  pub right : converter_refusal (take (record_bytes * n) table) ≡ 0
  pub works : Works (design ds) (converter (take (record_bytes * n) table))

found_then : (ds table : List ℕ) (work : ℕ) (F : Finding (search_refusal ds (length table) work) (design ds)) (n : ℕ) → done n ≡ answer_of F → FoundIn ds (table_of F table) n
found_then ds table work (declined x) n e = let c : ◌≡◌ {A = ℕ} 0 1 = cc in absurd (omega arith)
found_then ds table work (none z w) n e = let c : ◌≡◌ {A = ℕ} 0 1 = cc in absurd (omega arith)
found_then ds table work (found z cs few right works) n e =
    let count : n ≡ records cs = cc in
    let whole : length cs ≡ record_bytes * n = (accepted cs right).whole ∙ ap (λ (k : ℕ). record_bytes * k) (sym count) in
    let same : take (record_bytes * n) (put table 0 cs) ≡ cs = ap (λ (l : List ℕ). take (record_bytes * n) l) (at_front table cs) ∙ take_at cs (drop (length cs) table) (record_bytes * n) whole in
    let t = taken ds (length table) work z in
    record {
      accepted = t.accepted.refusal;
      few = omega arith;
      fits = omega (arith, t.table_room, length_put cs table 0 (omega (arith, t.table_room)));
      counts = ap records same ∙ sym count;
      right = ap converter_refusal same ∙ right;
      works = subst⁻¹ (λ (l : List ℕ). Works (design ds) (converter l)) same works;
    }

module _ (ds table work : List ℕ) (a : Result ℕ Refusal) (table' work' : List ℕ) (S : Searches ds table work a table' work') where
  -- 16 exactly when the other tests pass and every matched converter fails some rule
  pub none_exactly : (answered a ≡ refused 16) ↔ ((search_refusal ds (length table) (length work) ≡ 0) × NoneWorks (design ds))
  none_exactly = (
    λ e. none_then S.finding (refusal_below ds (length table) (length work)) (sym S.answers ∙ e),
    λ p. S.answers ∙ then_none S.finding p.0 p.1,
  )

  pub found_in : (n : ℕ) → a ≡ Ok n → FoundIn ds table' n
  found_in n e =
      subst⁻¹ (λ (t : List ℕ). FoundIn ds t n) S.leaves_table
      (found_then ds table (length work) S.finding n (sym (ap answered e) ∙ S.answers))
