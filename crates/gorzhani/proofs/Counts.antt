-- A count that the search, the writer or the block reader answers is no higher than the most records that a converter has, and one of rules no higher than the most rules.
use mathlib.Core.Path.{◌≡◌, refl, subst}
use mathlib.Core.List.{List}
use Prim.Native.Nat.{ℕ, ◌*◌, ◌≤◌}
use native.Mathlib.Omega.{arith}
use lib.ListN.{length, take}
use Rattle.std.specs.Prelude.{Result, Ok, Err, IfOk}
use Rattle.refusals.specs.declared.refusal.Refusal.{Refusal}
use Rattle.layout.specs.Sizes.{record_bytes, most_records, most_rules}
use Rattle.layout.specs.Converters.{records}
use Rattle.files.specs.Files.{file_count, blocks_for}
use Rattle.files.specs.Answers.{Writes, Reads}
use Rattle.refusals.proofs.Accepted.{accepted}
use Rattle.files.proofs.AcceptedWrites.{write_accepted}
use Rattle.files.proofs.AcceptedFiles.{read_accepted}
use Rattle.files.proofs.Outcomes.{write_does, write_passed, read_does, read_passed}
use Rattle.search.specs.Search.{Searches}
use Rattle.search.proofs.Answers.{found_in}
use Rattle.rules.specs.Rules.{Ruling}
use Rattle.rules.proofs.Promise.{few_lines}

module _ {n : ℕ} where
  pub search_count : {ds table work table' work' : List ℕ} {a : Result ℕ Refusal} → Searches ds table work a table' work' → a ≡ Ok n → n ≤ most_records
  search_count {ds} {table} {work} {table'} {work'} {a} p e =
      let f = found_in ds table work a table' work' p n e in
      omega (arith, f.counts, (accepted (take (record_bytes * n) table') f.right).at_most)

  pub write_count : {cs blocks blocks' : List ℕ} {a : Result ℕ Refusal} → Writes cs blocks blocks' a → a ≡ Ok n → n ≤ most_records
  write_count {cs} {blocks} {blocks'} p e =
      let w : Writes cs blocks blocks' (Ok n) = subst (Writes cs blocks blocks') e p in
      let z = write_passed cs blocks blocks' n w in
      let m : n ≡ blocks_for (records cs) = cc (write_does cs blocks blocks' (Ok n) w z).0 in
      omega (arith, (accepted cs (write_accepted cs (length blocks) z).0).at_most)

  pub read_count : {bs converter converter' : List ℕ} {a : Result ℕ Refusal} → Reads bs converter converter' a → a ≡ Ok n → n ≤ most_records
  read_count {bs} {converter} {converter'} p e =
      let r : Reads bs converter converter' (Ok n) = subst (Reads bs converter converter') e p in
      let z = read_passed bs converter converter' n r in
      let m : n ≡ file_count bs = cc (read_does bs converter converter' (Ok n) r z).0 in
      omega (arith, (read_accepted bs (length converter) z).0.pass.few_records)

  pub rules_count : {text blocks blocks' : List ℕ} {a : Result ℕ Refusal} → Ruling text blocks a blocks' → a ≡ Ok n → n ≤ most_rules
  rules_count {text} {blocks} {blocks'} p e = few_lines text blocks n blocks' (subst (λ (a : Result ℕ Refusal). Ruling text blocks a blocks') e p)

-- what is known of a count, as a clause asks it
pub few : (r : Result ℕ Refusal) → ((n : ℕ) → r ≡ Ok n → n ≤ most_records) → IfOk r (λ n. n ≤ most_records)
few (Ok n) f = f n refl
few (Err e) f = tt
