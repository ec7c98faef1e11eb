-- What is written for a design, where it isn't a refusal's line: a converter file that the block reader takes, and its records are a matched converter under which
-- every rule of the design holds.
use mathlib.Core.Path.{◌≡◌, ap, subst⁻¹, ◌∙◌}
use mathlib.Core.List.{List}
use Prim.Native.Nat.{ℕ, ◌+◌, ◌*◌, ◌≤◌}
use native.Mathlib.Omega.{arith}
use lib.ListN.{length, take}
use Rattle.std.specs.Prelude.{Result, Ok}
use Rattle.refusals.specs.declared.refusal.Refusal.{Refusal}
use Rattle.model.specs.Designs.{Works}
use Rattle.layout.specs.Sizes.{record_bytes, block_bytes}
use Rattle.layout.specs.Bytes.{put}
use Rattle.layout.specs.Designs.{design}
use Rattle.layout.specs.Converters.{records, converter}
use Rattle.files.specs.Files.{file_records, blocks_for, written}
use Rattle.refusals.specs.Refusals.{first_failing}
use Rattle.files.specs.FileRefusals.{file_tests}
use Rattle.layout.proofs.Put.{take_put}
use Rattle.refusals.proofs.Accepted.{accepted}
use Rattle.files.proofs.WrittenRead.{length_written}
use Rattle.files.proofs.RoundTrip.{written_passes, written_records}
use Rattle.search.proofs.Answers.{found_in}
use Rattle.convert.specs.Convert.{convert_blocks, Converts}
use Rattle.convert.proofs.Converting.{found_then, blocks_fit}

module _ (ds table work bs table' work' : List ℕ) (same : length table' ≡ length table) (room : block_bytes * blocks_for (records table) ≤ length bs) (bs' : List ℕ) (m : ℕ) (x : Result ℕ Refusal)
    (C : Converts ds table work bs x table' work' bs') (b : x ≡ Ok m) where
  -- the m blocks
  abbrev file : List ℕ
  file = take (block_bytes * m) bs'

  pub record ConverterFile : Type 0 where
    pub taken : first_failing (file_tests file) ≡ 0
    pub works : Works (design ds) (converter (file_records file))

  pub converted : ConverterFile
  converted =
      let t = found_then ds table work bs table' work' same room bs' m x C b in
      let n = t.0 in
      let f = found_in ds table work C.outcome table' work' C.searched n t.1.0 in
      let cs = take (record_bytes * n) table' in
      let l = length_written cs (accepted cs f.right) in
      let k : block_bytes * m ≡ 0 + length (written cs) = omega (arith, t.1.1, f.counts) in
      let e : file ≡ written cs =
      ap (take (block_bytes * m)) (C.leaves ∙ ap (λ o. convert_blocks o table' bs) t.1.0)
      ∙ ap (λ i. take i (put bs 0 (written cs))) k
      ∙ take_put (written cs) bs 0 (omega (arith, blocks_fit ds table work bs table' work' same room bs' m x C b)) in
      record {
        taken = ap (λ g. first_failing (file_tests g)) e ∙ written_passes cs f.right;
        works = subst⁻¹ (λ g. Works (design ds) (converter g)) (ap file_records e ∙ written_records cs f.right) f.works;
      }
