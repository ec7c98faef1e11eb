-- What stands in brackets: a rule in round ones, and A [ f U g ] or E [ f U g ].
use mathlib.Core.Path.{◌≡◌, sym, ap, ap₂, subst, ◌∙◌}
use mathlib.Core.List.{List, [], ◌∷◌, ◌++◌}
use Prim.Native.Nat.{ℕ, suc, ◌-◌, ◌*◌, ◌≤◌}
use native.Mathlib.Numerals.{unary_clauses}
use native.Mathlib.Omega.{arith}
use lib.ListN.{length, drop}
use Rattle.tokens.specs.declared.Found.{Found}
use Rattle.tokens.specs.declared.Quantifier.{Quantifier}
use Rattle.tokens.specs.declared.Token.{Token}
use Rattle.tokens.specs.declared.Token.TheVariants.{Path, Until, Open, Close, OpenSquare, CloseSquare}
use Rattle.tokens.specs.Tokens.{scanned}
use Rattle.tokens.specs.Scans.{Scans}
use Rattle.typed.specs.Grammar.{Typed, until, Rank, closest, implication, Reads, by_until, by_brackets, Spells}
use Rattle.typed.specs.Parses.{part, behind, Parses, Ends, Ended, a_closest, a_until, a_bracket}
use Rattle.typed.specs.Records.{formula_for}
use Rattle.typed.proofs.Sizes.{size_pos}
use Rattle.typed.proofs.Unique.{joined, same}
use Rattle.rules.specs.declared.parts.Grade.{Grade}
use Rattle.rules.specs.declared.parts.Part.{Part}
use Rattle.rules.specs.declared.records.Kind.TheVariants as kind
use Rattle.rules.specs.declared.records.Store.{Store}
use Rattle.rules.specs.Grades.{worse, asked, grade}
use Rattle.rules.specs.Reading.{Begins, Takes, Nothing, Read, Stands}
use Rattle.rules.proofs.Graded.{left_right, right_right}
use Rattle.rules.proofs.Places.{spelled_on, behind_token}
use Rattle.rules.proofs.Taken.{parsed}
use Rattle.rules.proofs.Chained.{Joined, until_binary, pair_taken}
use Rattle.rules.specs.declared.records.Entry.{Entry}

-- another token was found
pub missing : {text : List ℕ} {at : ℕ} {r : Found} {t : Token} → Scans text at r → (r.token ≡ t → ⊥) → Ends t (drop at text)
missing s n z = n (s.found.token ∙ z)

-- a part begins behind a token
pub begins_behind : {text : List ℕ} {at next : ℕ} {s : Store} {t : Token} → Begins text at s → Stands text at t next → Begins text next s
begins_behind b w = record { inside = w.inside; slim = omega (arith, b.slim, w.ahead) }

-- and behind a part
pub begins_after : {text : List ℕ} {r : Rank} {room at next : ℕ} {s : Store} {p : Part} {s' : Store} {t : Token} → Begins text at s → Read text r room at s p s' → Stands text p.next t next → Begins text next s'
begins_after b k w = record { inside = w.inside; slim = omega (arith, b.slim, k.takes.slim, k.count, k.height, w.ahead) }

-- a part has a record
pub some_records : {text : List ℕ} {r : Rank} {room at height count : ℕ} {rs : List ℕ} {ps : List Entry} {p : Part} {rs' : List ℕ} {ps' : List Entry} → Takes text r room at height count rs ps p rs' ps' → 1 ≤ p.count
some_records k = omega (arith, k.counted, size_pos (formula_for k.tree))

-- and there are two records a byte at most
pub few_records : {text : List ℕ} {r : Rank} {room at : ℕ} {s : Store} {p : Part} {s' : Store} → Begins text at s → Read text r room at s p s' → p.count ≤ 2 * length text
few_records b k = let t = k.takes in omega (arith, b.slim, t.slim, t.inside)

-- the brackets that may be opened, but for one
one_less : {room : ℕ} → (room ≡ 0 → ⊥) → suc (room - 1) ≡ room
one_less n = omega (arith, n)

-- one token more, in front
spelled_before : {text : List ℕ} {at next : ℕ} {t : Token} {ts : List Token} {s : List ℕ} → Stands text at t next → Spells (drop next text) ts s → Spells (drop at text) (t ∷ ts) s
spelled_before {ts = ts} {s} w sp = Spells.one {s' = s} {ts = ts} w.token (rw w.left sp)

-- ---- round brackets
-- what a reading has behind an open bracket
record Bracketed (d : ℕ) (s : List ℕ) : Type 0 where
  room : d ≡ 0 → ⊥
  tree : Typed
  left : List ℕ
  inner : Parses (part implication) (d - 1) s tree left
  closed : (scanned left).token ≡ Close

-- a closest part that begins with one
behind_open : {d : ℕ} {s : List ℕ} {f : Typed} {r : List ℕ} → Parses (behind Open) d s f r → Bracketed d s
behind_open (a_bracket {s₁ = s₁} {f = f} x e) = record { room = λ z. omega arith; tree = f; left = s₁; inner = simp unary_clauses x; closed = e }

-- no bracket may be opened
pub no_bracket : {room : ℕ} {s : List ℕ} → room ≡ 0 → (scanned s).token ≡ Open → Nothing closest room s
no_bracket n e f s' (a_closest v x) = (behind_open (rw (sym v ∙ e) at x)).room n

module _ {text : List ℕ} {room at next : ℕ} (w : Stands text at Open next) where
  -- no rule stands behind the bracket
  pub bracket_empty : Nothing implication (room - 1) (drop next text) → Nothing closest room (drop at text)
  bracket_empty n f s x = let b = behind_open (behind_token w x) in n b.tree b.left b.inner

  module _ {height count : ℕ} {rs : List ℕ} {ps : List Entry} {p : Part} {rs' : List ℕ} {ps' : List Entry} (t : Takes text implication (room - 1) next height count rs ps p rs' ps') where
    -- a rule stands there, and the bracket isn't closed behind it
    pub bracket_open : Ended implication (drop p.next text) → Ends Close (drop p.next text) → Nothing closest room (drop at text)
    bracket_open e n f s x =
        let b = behind_open (behind_token w x) in
        n (ap (λ (l : List ℕ). (scanned l).token) (same (parsed t e) b.inner).1 ∙ b.closed)

    -- it is closed
    pub bracket_taken : (room ≡ 0 → ⊥) → {close : ℕ} → Stands text p.next Close close
        → Takes text closest room at height count rs ps (record { next = close; count = p.count; grade = p.grade }) rs' ps'
    bracket_taken n v =
        record {
          tree = t.tree;
          tokens = Open ∷ (t.tokens ++ (Close ∷ []));
          spelled = spelled_before w (spelled_on t.spelled v);
          reads = subst (λ (d : ℕ). Reads closest d (Open ∷ (t.tokens ++ (Close ∷ []))) t.tree) (one_less n) (by_brackets t.reads);
          ahead = omega (arith, w.ahead, t.ahead, v.ahead);
          inside = v.inside;
          graded = t.graded;
          counted = t.counted;
          slim = omega (arith, w.ahead, t.slim, v.ahead);
          made = t.made;
          kept = t.kept;
        }

-- ---- square brackets
-- what a reading has behind A or E
record Squared (d : ℕ) (s : List ℕ) : Type 0 where
  room : d ≡ 0 → ⊥
  opened : (scanned s).token ≡ OpenSquare
  left : Typed
  middle : List ℕ
  before : Parses (part implication) (d - 1) (scanned s).rest left middle
  parted : (scanned middle).token ≡ Until
  right : Typed
  last : List ℕ
  after : Parses (part implication) (d - 1) (scanned middle).rest right last
  closed : (scanned last).token ≡ CloseSquare

-- a closest part that begins with one of them
behind_path : {q : Quantifier} {d : ℕ} {s : List ℕ} {f : Typed} {r : List ℕ} → Parses (behind (Path q)) d s f r → Squared d s
behind_path (a_until {s₁ = s₁} {s₂ = s₂} {f = f} {g = g} e x u y z) =
    record {
      room = λ n. omega arith;
      opened = e;
      left = f;
      middle = s₁;
      before = simp unary_clauses x;
      parted = u;
      right = g;
      last = s₂;
      after = simp unary_clauses y;
      closed = z;
    }

-- no bracket may be opened
pub no_square : {q : Quantifier} {room : ℕ} {s : List ℕ} → room ≡ 0 → (scanned s).token ≡ Path q → Nothing closest room s
no_square n e f s' (a_closest v x) = (behind_path (rw (sym v ∙ e) at x)).room n

module _ {text : List ℕ} {room at start : ℕ} {q : Quantifier} (w : Stands text at (Path q) start) where
  -- no square bracket stands behind A or E
  pub square_missing : Ends OpenSquare (drop start text) → Nothing closest room (drop at text)
  square_missing n f s x = n (behind_path (behind_token w x)).opened

  module _ {next : ℕ} (o : Stands text start OpenSquare next) where
    -- no rule stands behind the bracket
    pub square_empty : Nothing implication (room - 1) (drop next text) → Nothing closest room (drop at text)
    square_empty n f s x = let b = behind_path (behind_token w x) in n b.left b.middle (rw o.left at b.before)

    module _ {height count : ℕ} {rs : List ℕ} {ps : List Entry} {p : Part} {rs₁ : List ℕ} {ps₁ : List Entry} (l : Takes text implication (room - 1) next height count rs ps p rs₁ ps₁)
        (e : Ended implication (drop p.next text)) where
      -- the left rule ends where it was read to
      left_end : (b : Squared room (drop start text)) → b.middle ≡ drop p.next text
      left_end b = (same (rw o.left at b.before) (parsed l e)).1

      -- U doesn't stand behind it
      pub until_missing : Ends Until (drop p.next text) → Nothing closest room (drop at text)
      until_missing n f s x = let b = behind_path (behind_token w x) in n (ap (λ (r : List ℕ). (scanned r).token) (sym (left_end b)) ∙ b.parted)

      module _ {second : ℕ} (u : Stands text p.next Until second) where
        -- the right rule begins behind U
        right_rule : (b : Squared room (drop start text)) → Parses (part implication) (room - 1) (drop second text) b.right b.last
        right_rule b = subst (λ (r : List ℕ). Parses (part implication) (room - 1) r b.right b.last) (ap (λ (r : List ℕ). (scanned r).rest) (left_end b) ∙ u.left) b.after

        -- no rule stands there
        pub until_empty : Nothing implication (room - 1) (drop second text) → Nothing closest room (drop at text)
        until_empty n f s x = let b = behind_path (behind_token w x) in n b.right b.last (right_rule b)

        module _ {g : Part} {rs₂ : List ℕ} {ps₂ : List Entry} (r : Takes text implication (room - 1) second height p.count rs₁ ps₁ g rs₂ ps₂) where
          -- a rule stands there, and the bracket isn't closed behind it
          pub square_open : Ended implication (drop g.next text) → Ends CloseSquare (drop g.next text) → Nothing closest room (drop at text)
          square_open z n f s x =
              let b = behind_path (behind_token w x) in
              n (ap (λ (k : List ℕ). (scanned k).token) (same (parsed r z) (right_rule b)).1 ∙ b.closed)

          -- it is closed
          pub until_taken : (room ≡ 0 → ⊥) → {close : ℕ} → Stands text g.next CloseSquare close → {j : Part} {rs₃ : List ℕ} → Joined kind.Until p g rs₂ j rs₃ → {k : Grade} → k ≡ worse (asked q) j.grade
              → Takes text closest room at height count rs ps (record { next = close; count = j.count; grade = k }) rs₃ ps₂
          unfolding grade
          until_taken n {close} v {j} {rs₃} x {k} i =
              let tokens = Path q ∷ OpenSquare ∷ (l.tokens ++ (Until ∷ (r.tokens ++ (CloseSquare ∷ [])))) in
              let own : k ≡ worse (asked q) (worse p.grade g.grade) = i ∙ ap (λ (y : Part). worse (asked q) y.grade) x.part in
              subst (λ (y : ℕ). Takes text closest room at height count rs ps (record { next = close; count = y; grade = k }) rs₃ ps₂) (ap (λ (y : Part). y.count) (sym x.part))
              (pair_taken l r (until_binary q l.tree r.tree) (spelled_before w (spelled_before o (joined l.spelled (spelled_before u (spelled_on r.spelled v)))))
              (subst (λ (d : ℕ). Reads closest d tokens (until q l.tree r.tree)) (one_less n) (by_until l.reads r.reads)) (omega (arith, w.ahead, o.ahead)) u.ahead (omega (arith, v.ahead)) v.inside
              (own ∙ ap₂ (λ (a b : Grade). worse (asked q) (worse a b)) l.graded r.graded)
              (λ right.
              let both = right_right (asked q) (worse p.grade g.grade) (λ z. right (own ∙ z)) in
              (left_right p.grade g.grade both, right_right p.grade g.grade both))
              x.added)
