-- The two ways in which the writer and the block reader end: refused, with every lent byte as it was, or done.
use mathlib.Core.Path.{◌≡◌, sym, ap, ◌∙◌}
use mathlib.Core.List.{List}
use Prim.Native.Nat.{ℕ}
use native.Mathlib.Decide.{ℕ_discrete}
use native.Mathlib.Omega.{arith}
use lib.ListN.{length}
use Rattle.std.specs.Prelude.{Result, Ok}
use Rattle.refusals.specs.declared.refusal.Refusal.{Refusal}
use Rattle.refusals.specs.Answered.{Answer, done, refused, answered}
use Rattle.refusals.proofs.Answered.{by_done}
use Rattle.layout.specs.Bytes.{put}
use Rattle.layout.specs.Converters.{records}
use Rattle.refusals.proofs.ByRefusal.{where_none, where_some}
use Rattle.files.specs.Files.{file_count, file_records, blocks_for, written}
use Rattle.files.specs.FileRefusals.{write_refusal, read_refusal}
use Rattle.files.specs.Answers.{Writes, Reads}

module _ (cs bs : List ℕ) where
  abbrev w : ℕ
  w = write_refusal cs (length bs)

  pub write_refused : (x : Result ℕ Refusal) (k : ℕ) → answered x ≡ refused k → k ≡ w → (k ≡ 0 → ⊥) → Writes cs bs bs x
  write_refused x k a e n =
      record {
        answers = a ∙ ap refused e ∙ sym (where_some w (done (blocks_for (records cs))) (refused w) (λ z. n (e ∙ z)));
        leaves = sym (where_some w (put bs 0 (written cs)) bs (λ z. n (e ∙ z)));
      }

  pub write_done : (after : List ℕ) (n : ℕ) → w ≡ 0 → n ≡ blocks_for (records cs) → after ≡ put bs 0 (written cs) → Writes cs bs after (Ok n)
  write_done after n z e l =
      record {
        answers = ap done e ∙ sym (where_none w (done (blocks_for (records cs))) (refused w) z);
        leaves = l ∙ sym (where_none w (put bs 0 (written cs)) bs z);
      }

  -- where nothing is refused, it is done; and an answer with a count says that nothing is
  pub write_does : (after : List ℕ) (x : Result ℕ Refusal) → Writes cs bs after x → w ≡ 0 → (x ≡ Ok (blocks_for (records cs))) × (after ≡ put bs 0 (written cs))
  write_does after x d z =
      (by_done x _ (d.answers ∙ where_none w (done (blocks_for (records cs))) (refused w) z), d.leaves ∙ where_none w (put bs 0 (written cs)) bs z)

  pub write_passed : (after : List ℕ) (n : ℕ) → Writes cs bs after (Ok n) → w ≡ 0
  write_passed after n d = by (ℕ_discrete w 0)
    where
      by : Dec (w ≡ 0) → w ≡ 0
      by (yes z) = z
      by (no x) =
          let e : ◌≡◌ {A = Answer ℕ} (done n) (refused w) = d.answers ∙ where_some w (done (blocks_for (records cs))) (refused w) x in
          let z : ◌≡◌ {A = ℕ} 0 1 = cc in
          absurd (omega arith)

module _ (bs cs : List ℕ) where
  abbrev r : ℕ
  r = read_refusal bs (length cs)

  pub read_refused : (x : Result ℕ Refusal) (k : ℕ) → answered x ≡ refused k → k ≡ r → (k ≡ 0 → ⊥) → Reads bs cs cs x
  read_refused x k a e n =
      record {
        answers = a ∙ ap refused e ∙ sym (where_some r (done (file_count bs)) (refused r) (λ z. n (e ∙ z)));
        leaves = sym (where_some r (put cs 0 (file_records bs)) cs (λ z. n (e ∙ z)));
      }

  pub read_done : (after : List ℕ) (n : ℕ) → r ≡ 0 → n ≡ file_count bs → after ≡ put cs 0 (file_records bs) → Reads bs cs after (Ok n)
  read_done after n z e l =
      record {
        answers = ap done e ∙ sym (where_none r (done (file_count bs)) (refused r) z);
        leaves = l ∙ sym (where_none r (put cs 0 (file_records bs)) cs z);
      }

  pub read_does : (after : List ℕ) (x : Result ℕ Refusal) → Reads bs cs after x → r ≡ 0 → (x ≡ Ok (file_count bs)) × (after ≡ put cs 0 (file_records bs))
  read_does after x d z =
      (by_done x _ (d.answers ∙ where_none r (done (file_count bs)) (refused r) z), d.leaves ∙ where_none r (put cs 0 (file_records bs)) cs z)

  pub read_passed : (after : List ℕ) (n : ℕ) → Reads bs cs after (Ok n) → r ≡ 0
  read_passed after n d = by (ℕ_discrete r 0)
    where
      by : Dec (r ≡ 0) → r ≡ 0
      by (yes z) = z
      by (no x) =
          let e : ◌≡◌ {A = Answer ℕ} (done n) (refused r) = d.answers ∙ where_some r (done (file_count bs)) (refused r) x in
          let z : ◌≡◌ {A = ℕ} 0 1 = cc in
          absurd (omega arith)
