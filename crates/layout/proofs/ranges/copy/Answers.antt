-- `ranges::copy` meets its contract. The invariant: i bytes are put.
use Rattle.std.proofs.Common.{◌≡◌, ◌+◌, ◌≤◌, ◌<◌, length, set, sym, ap, ◌∙◌, arith, rules, List, ℕ}
use Rattle.layout.specs.Bytes.{byte, part, put}
use Rattle.layout.proofs.Parts.{length_part}
use Rattle.layout.proofs.Put.{put_nil, copy_next, length_put}
use Rattle.layout.proofs.ranges.copy.Goals as goal

-- the slice keeps its length
kept : (src before after : List ℕ) (from at n i : ℕ) → after ≡ put before at (part src from i) → from + n ≤ length src → at + n ≤ length before → i ≤ n → length after ≡ length before
kept src before after from at n i e h k l = ap length e ∙ length_put (part src from i) before at (omega (arith, length_part src from i (omega arith)))

pub loop-i-init : goal.loop-i-init
loop-i-init c = sym (put_nil c.args.dst.now c.args.at (omega arith))

pub bounds-dst-at : goal.bounds-dst-at
bounds-dst-at c =
    let a = c.args in
    let l = c.loop-i in
    omega (arith, kept a.src.now a.dst.now l.dst a.from a.at a.n l.i l.invariant c.requires.0 c.requires.1 (omega arith))

pub loop-i-preserved : goal.loop-i-preserved
loop-i-preserved c =
    let a = c.args in
    let l = c.loop-i in
    ap (λ d. set d (a.at + l.i) (byte a.src.now (a.from + l.i))) l.invariant
    ∙ copy_next a.src.now a.dst.now a.from a.at l.i (omega arith) (omega arith)

pub returns : goal.returns
returns c =
    let a = c.args in
    let e : c.loop-i.i ≡ a.n = omega arith in
    c.loop-i.invariant ∙ ap (λ i. put a.dst.now a.at (part a.src.now a.from i)) e
