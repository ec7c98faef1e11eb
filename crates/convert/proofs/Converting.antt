-- From the search's promise and the writer's to the program's: the writer is handed the converter that was found, and has room for its blocks.
use mathlib.Core.Path.{◌≡◌, refl, sym, ap, ◌∙◌}
use mathlib.Core.List.{List}
use Prim.Native.Nat.{ℕ, ◌*◌, ◌≤◌}
use native.Mathlib.Omega.{arith}
use lib.ListN.{length, take}
use Rattle.std.specs.Prelude.{Result, Ok, Err}
use Rattle.refusals.specs.declared.refusal.Refusal.{Refusal}
use Rattle.layout.specs.Sizes.{record_bytes, block_bytes}
use Rattle.layout.specs.Converters.{records}
use Rattle.files.specs.Files.{blocks_for}
use Rattle.files.specs.FileRefusals.{write_refusal}
use Rattle.files.specs.Answers.{Writes}
use Rattle.files.proofs.AcceptedWrites.{write_accepts}
use Rattle.files.proofs.Outcomes.{write_does}
use Rattle.search.specs.Search.{Searches}
use Rattle.search.proofs.Answers.{found_in}
use Rattle.convert.specs.Convert.{convert_answer, convert_blocks, Converts}

module _ (ds table work bs table' work' : List ℕ) (same : length table' ≡ length table) (room : block_bytes * blocks_for (records table) ≤ length bs) where
  module _ (a : Result ℕ Refusal) (S : Searches ds table work a table' work') where
    module _ (n : ℕ) (e : a ≡ Ok n) where
      pub few_blocks : block_bytes * blocks_for n ≤ length bs
      few_blocks = omega (arith, (found_in ds table work a table' work' S n e).fits)

      pub nothing_refused : write_refusal (take (record_bytes * n) table') (length bs) ≡ 0
      nothing_refused =
          let f = found_in ds table work a table' work' S n e in
          write_accepts (take (record_bytes * n) table') (length bs) f.right (omega (arith, f.counts, few_blocks))

      pub found_converts : (bs' : List ℕ) (x : Result ℕ Refusal) → Writes (take (record_bytes * n) table') bs bs' x → Converts ds table work bs x table' work' bs'
      found_converts bs' x d =
          let w = write_does (take (record_bytes * n) table') bs bs' x d nothing_refused in
          record {
            outcome = a;
            searched = S;
            answers = w.0 ∙ ap (λ m. Ok (blocks_for m)) (found_in ds table work a table' work' S n e).counts ∙ sym (ap convert_answer e);
            leaves = w.1 ∙ sym (ap (λ o. convert_blocks o table' bs) e);
          }

    pub refused_converts : (d : Refusal) → a ≡ Err d → Converts ds table work bs (Err d) table' work' bs
    refused_converts d e =
        record { outcome = a; searched = S; answers = sym (ap convert_answer e); leaves = sym (ap (λ o. convert_blocks o table' bs) e) }

  -- an answer with a count of blocks is a converter found
  module _ (bs' : List ℕ) (m : ℕ) (x : Result ℕ Refusal) (C : Converts ds table work bs x table' work' bs') (b : x ≡ Ok m) where
    pub found_then : (n : ℕ) × ((C.outcome ≡ Ok n) × (m ≡ blocks_for n))
    found_then = by C.outcome refl
      where
        by : (o : Result ℕ Refusal) → C.outcome ≡ o → (n : ℕ) × ((C.outcome ≡ Ok n) × (m ≡ blocks_for n))
        by (Ok n) q =
            let p : ◌≡◌ {A = Result ℕ Refusal} (Ok m) (Ok (blocks_for n)) = sym b ∙ C.answers ∙ ap convert_answer q in
            let d : m ≡ blocks_for n = cc in
            (n, (q, d))
        by (Err d) q =
            let p : ◌≡◌ {A = Result ℕ Refusal} (Ok m) (Err d) = sym b ∙ C.answers ∙ ap convert_answer q in
            let z : ◌≡◌ {A = ℕ} 0 1 = cc in
            absurd (omega arith)

    pub blocks_fit : block_bytes * m ≤ length bs
    blocks_fit = omega (arith, found_then.1.1, few_blocks C.outcome C.searched found_then.0 found_then.1.0)
