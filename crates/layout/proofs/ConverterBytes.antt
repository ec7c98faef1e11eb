-- What stands in a converter's bytes, in terms of the decoded converter: the names and the transitions of a record, by number.
use Rattle.std.proofs.Common.{◌≡◌, ℕ, ◌+◌, ◌*◌, ◌<◌, List, length, get_or, sym, refl, ap, ◌∙◌, arith}
use Rattle.model.specs.Converters.{no_node, no_edge, node, edge}
use Rattle.layout.specs.declared.records.Record.{Record}
use Rattle.layout.specs.Sizes.{side_count, place_count, record_bytes, edge_count_at}
use Rattle.layout.specs.Tables.{table}
use Rattle.layout.specs.Bytes.{byte}
use Rattle.layout.specs.Records.{no_transition, transition_at, record_at, edge_of, node_of}
use Rattle.layout.specs.Converters.{records, converter}
use Rattle.layout.proofs.Tables.{length_table, entry}

-- ---- a record's converter state
module _ (r : Record) where
  pub names_of : (node_of r).names ≡ r.names
  unfolding node_of
  names_of = refl

  pub edges_of : length (node_of r).edges ≡ r.count
  unfolding node_of
  edges_of = length_table _ _

  pub edge_of_place : (k : ℕ) → k < r.count → edge (node_of r) k ≡ edge_of (get_or r.places k no_transition)
  unfolding node_of
  edge_of_place k h = entry _ no_edge r.count k h

-- place k of a record that is read
pub place_read : (bs : List ℕ) (at k : ℕ) → k < place_count → get_or (record_at bs at).places k no_transition ≡ transition_at bs at k
unfolding record_at
place_read bs at k h = entry _ no_transition place_count k h

-- ---- record c of a converter
module _ (cs : List ℕ) (c : ℕ) (there : c < records cs) where
  pub node_at : node_of (record_at cs (record_bytes * c)) ≡ node (converter cs) c
  unfolding converter
  node_at = sym (entry _ no_node (records cs) c there)

  pub names_at : table side_count (λ i. byte cs (record_bytes * c + i)) ≡ (node (converter cs) c).names
  unfolding record_at
  names_at = sym (names_of (record_at cs (record_bytes * c))) ∙ ap (λ d. d.names) node_at

  pub edges_at : byte cs (record_bytes * c + edge_count_at) ≡ length (node (converter cs) c).edges
  unfolding record_at
  edges_at = sym (edges_of (record_at cs (record_bytes * c))) ∙ ap (λ d. length d.edges) node_at

  pub edge_read : (k : ℕ) → k < length (node (converter cs) c).edges → k < place_count → edge_of (transition_at cs (record_bytes * c) k) ≡ edge (node (converter cs) c) k
  edge_read k h l =
      ap edge_of (sym (place_read cs (record_bytes * c) k l))
      ∙ sym (edge_of_place (record_at cs (record_bytes * c)) k (omega (arith, ap (λ d. length d.edges) node_at, edges_of (record_at cs (record_bytes * c)))))
      ∙ ap (λ d. edge d k) node_at
