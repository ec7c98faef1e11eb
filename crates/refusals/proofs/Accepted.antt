-- What it says of a converter in memory that nothing is refused: its size, and each of its records as a converter state.
use mathlib.Core.Path.{◌≡◌, sym, ap, subst, ◌∙◌}
use mathlib.Core.Bool.{true, ◌&&◌}
use mathlib.Core.List.{List, [], ◌∷◌}
use Prim.Native.Nat.{ℕ, ◌*◌, ◌%◌, ◌≤◌, ◌<◌}
use native.Mathlib.Omega.{arith}
use borrow.Author.Tests.{leb-true, eqb-true, le-leb, eq-eqb}
use lib.Dec.{lit<, leb, eqb}
use lib.ListN.{length}
use Rattle.model.specs.Converters.{node, edge}
use Rattle.layout.specs.Sizes.{side_count, place_count, record_bytes, most_records}
use Rattle.layout.specs.Bytes.{all_zero}
use Rattle.layout.specs.Records.{record_at, node_of, transition_at}
use Rattle.layout.specs.Unused.{converter_record, unused}
use Rattle.layout.specs.Converters.{records, converter}
use Rattle.layout.specs.Tests.{node_right}
use Rattle.refusals.specs.Refusals.{first_failing, size_right, record_right, records_right, converter_refusal}
use Rattle.layout.proofs.Tables.{and_true, and_left, and_right, every_true, every_at, length_table}
use Rattle.refusals.proofs.Passing.{passed, passes_on}
use Rattle.layout.proofs.ConverterBytes.{node_at, names_at, edge_read}
use Rattle.layout.proofs.Nodes.{WellFormedNode, well_formed}

pub record Accepted (cs : List ℕ) : Type 0 where
  pub some_record : 1 ≤ records cs
  pub whole : length cs ≡ record_bytes * records cs
  pub at_most : records cs ≤ most_records
  pub right : (c : ℕ) → c < records cs → record_right cs (records cs) (record_bytes * c) ≡ true

module _ (cs : List ℕ) where
  pub accepted : converter_refusal cs ≡ 0 → Accepted cs
  unfolding converter_refusal size_right records_right
  accepted e =
      let p = passed record { number = 10; passes = size_right cs } (record { number = 11; passes = records_right cs } ∷ []) (lit< tt) e in
      let q = passed record { number = 11; passes = records_right cs } [] (lit< tt) p.1 in
      let s = and_left (leb 1 (length cs) && eqb (length cs % record_bytes) 0) (leb (records cs) most_records) p.0 in
      let some = leb-true 1 (length cs) (and_left (leb 1 (length cs)) (eqb (length cs % record_bytes) 0) s) in
      let whole = eqb-true (length cs % record_bytes) 0 (and_right (leb 1 (length cs)) (eqb (length cs % record_bytes) 0) s) in
      record {
        some_record = omega arith;
        whole = omega arith;
        at_most = leb-true (records cs) most_records (and_right (leb 1 (length cs) && eqb (length cs % record_bytes) 0) (leb (records cs) most_records) p.0);
        right = every_at (λ k. record_right cs (records cs) (record_bytes * k)) (records cs) q.0;
      }

  pub accepts : Accepted cs → converter_refusal cs ≡ 0
  unfolding converter_refusal size_right records_right first_failing
  accepts a =
      let w = a.whole in
      let s = a.some_record in
      passes_on record { number = 10; passes = size_right cs } (record { number = 11; passes = records_right cs } ∷ [])
      (and_true (leb 1 (length cs) && eqb (length cs % record_bytes) 0) (leb (records cs) most_records)
      (and_true (leb 1 (length cs)) (eqb (length cs % record_bytes) 0) (le-leb 1 (length cs) (omega arith)) (eq-eqb (length cs % record_bytes) 0 (omega arith)))
      (le-leb (records cs) most_records a.at_most))
      ∙ passes_on record { number = 11; passes = records_right cs } [] (every_true (λ k. record_right cs (records cs) (record_bytes * k)) (records cs) a.right)

  -- ---- as the model's converter
  pub converter_length : length (converter cs) ≡ records cs
  unfolding converter
  converter_length = length_table _ _

  pub names_length : (c : ℕ) → c < records cs → length (node (converter cs) c).names ≡ side_count
  names_length c h = sym (ap length (names_at cs c h)) ∙ length_table _ _

  pub events_length : (c k : ℕ) → c < records cs → k < length (node (converter cs) c).edges → k < place_count → length (edge (node (converter cs) c) k).events ≡ side_count
  unfolding transition_at
  events_length c k h l u = sym (ap (λ e. length e.events) (edge_read cs c h k l u)) ∙ length_table _ _

  -- a record that is right
  pub right_well_formed : (c : ℕ) → c < records cs → record_right cs (records cs) (record_bytes * c) ≡ true → WellFormedNode (records cs) (node (converter cs) c)
  unfolding record_right
  right_well_formed c h e =
      subst (WellFormedNode (records cs)) (node_at cs c h)
      (well_formed (records cs) (node_of (record_at cs (record_bytes * c)))
      (and_left (node_right (records cs) (node_of (record_at cs (record_bytes * c)))) (all_zero (unused converter_record cs (record_bytes * c))) e))

  -- each record of a converter that isn't refused
  pub each_well_formed : converter_refusal cs ≡ 0 → (c : ℕ) → c < records cs → WellFormedNode (records cs) (node (converter cs) c)
  each_well_formed e c h = right_well_formed c h ((accepted e).right c h)
