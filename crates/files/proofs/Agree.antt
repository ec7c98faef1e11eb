-- Bytes that agree: a part, a converter record and its test (11) depend on their own bytes alone.
use mathlib.Core.Path.{◌≡◌, refl, sym, ap, ap₂, ◌∙◌}
use mathlib.Core.Bool.{Bool, true, false, ◌&&◌}
use mathlib.Core.List.{List, ◌++◌}
use Prim.Native.Nat.{ℕ, ◌+◌, ◌-◌, ◌*◌, ◌≤◌, ◌<◌}
use native.Mathlib.Omega.{arith}
use lib.ListN.{length}
use Rattle.layout.specs.Sizes.{side_count, place_count, record_bytes, edge_count_at, places_at, transition_bytes, next_at}
use Rattle.layout.specs.Bytes.{byte, event_of, part, all_zero}
use Rattle.layout.specs.Records.{transition_at, record_at, node_of}
use Rattle.layout.specs.Unused.{converter_record, place_gaps, places_behind, unused}
use Rattle.layout.specs.Tests.{node_right}
use Rattle.refusals.specs.Refusals.{record_right}
use Rattle.layout.proofs.Parts.{length_part, byte_part, part_is}
use Rattle.layout.proofs.Tables.{and_false, table_same}
use Rattle.layout.proofs.ConverterBytes.{edges_of}
use Rattle.layout.proofs.Nodes.{well_formed}

-- parts of the same bytes
pub part_same : (xs ys : List ℕ) (a b n : ℕ) → a + n ≤ length xs → b + n ≤ length ys → ((i : ℕ) → i < n → byte xs (a + i) ≡ byte ys (b + i)) → part xs a n ≡ part ys b n
part_same xs ys a b n h l e = part_is ys b n (part xs a n) l (length_part xs a n h) (λ i v. byte_part xs a n i v ∙ e i v)

-- ---- a record at a in xs, and at b in ys
module _ (xs ys : List ℕ) (a b : ℕ) (agree : (i : ℕ) → i < record_bytes → byte xs (a + i) ≡ byte ys (b + i)) where
  -- at places that are m behind
  at_offset : (m x y : ℕ) → x ≡ a + m → y ≡ b + m → m < record_bytes → byte xs x ≡ byte ys y
  at_offset m x y p q h = ap (byte xs) p ∙ agree m h ∙ sym (ap (byte ys) q)

  -- byte j of place k
  in_place : (k j : ℕ) → k < place_count → j < transition_bytes → byte xs (a + places_at + transition_bytes * k + j) ≡ byte ys (b + places_at + transition_bytes * k + j)
  in_place k j h l = at_offset (places_at + transition_bytes * k + j) _ _ (omega arith) (omega arith) (omega arith)

  transition_agrees : (k : ℕ) → k < place_count → transition_at xs a k ≡ transition_at ys b k
  unfolding transition_at
  transition_agrees k h =
      let high = at_offset (places_at + transition_bytes * k + next_at + 1) (a + places_at + transition_bytes * k + next_at + 1) (b + places_at + transition_bytes * k + next_at + 1) (omega arith) (omega arith) (omega arith) in
      ap₂ (λ es w. record { events = es; next = w })
      (table_same (λ i. event_of (byte xs (a + places_at + transition_bytes * k + i))) (λ i. event_of (byte ys (b + places_at + transition_bytes * k + i))) side_count
      (λ i l. ap event_of (in_place k i h (omega arith))))
      (ap₂ (λ x y. x + 256 * y) (in_place k next_at h (omega arith)) high)

  count_agrees : byte xs (a + edge_count_at) ≡ byte ys (b + edge_count_at)
  count_agrees = agree edge_count_at (omega arith)

  pub record_agrees : record_at xs a ≡ record_at ys b
  unfolding record_at
  record_agrees =
      let names = table_same (λ i. byte xs (a + i)) (λ i. byte ys (b + i)) side_count (λ i l. agree i (omega arith)) in
      let places = table_same (transition_at xs a) (transition_at ys b) place_count transition_agrees in
      let count = count_agrees in
      cc

  -- where the count is of places that there are: the byte inside each that is used, and the places behind
  unused_agrees : byte ys (b + edge_count_at) ≤ place_count → a + record_bytes ≤ length xs → b + record_bytes ≤ length ys → unused converter_record xs a ≡ unused converter_record ys b
  unfolding unused
  unused_agrees few h l =
      let n = byte ys (b + edge_count_at) in
      ap (λ c. place_gaps c xs a ++ places_behind c transition_bytes xs a) count_agrees
      ∙ ap₂ ◌++◌ (table_same _ _ n (λ k u. in_place k side_count (omega arith) (omega arith)))
      (part_same xs ys (a + places_at + transition_bytes * n) (b + places_at + transition_bytes * n) (transition_bytes * (place_count - n)) (omega arith) (omega arith)
      (λ i v. at_offset (places_at + transition_bytes * n + i) _ _ (omega arith) (omega arith) (omega arith)))

  -- a count that is over 8 is refused by itself
  pub right_agrees : (n : ℕ) → a + record_bytes ≤ length xs → b + record_bytes ≤ length ys → record_right xs n a ≡ record_right ys n b
  unfolding record_at record_right
  right_agrees n h l = by (right ys b) refl
    where
      right : List ℕ → ℕ → Bool
      right zs at = node_right n (node_of (record_at zs at))

      same : right xs a ≡ right ys b
      same = ap (λ r. node_right n (node_of r)) record_agrees

      few : right ys b ≡ true → byte ys (b + edge_count_at) ≤ place_count
      few e = omega (arith, edges_of (record_at ys b), (well_formed n (node_of (record_at ys b)) e).at_most_eight)

      by : (r : Bool) → right ys b ≡ r → record_right xs n a ≡ record_right ys n b
      by true e = ap₂ ◌&&◌ same (ap all_zero (unused_agrees (few e) h l))
      by false e = and_false (right xs a) _ (same ∙ e) ∙ sym (and_false (right ys b) _ e)
