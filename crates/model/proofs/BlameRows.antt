-- The rows of the rule to blame are true. One test computes on the whole table, and a row that passes it says what `Blames` says.
use mathlib.Core.Path.{◌≡◌, refl, subst}
use mathlib.Core.Bool.{Bool, ◌&&◌}
use mathlib.Core.List.{Memᴰ as In}
use lib.Dec.{T, eqb, eqb→eq}
use Rattle.model.specs.Converters.{any_input, any_delayed, duty}
use Rattle.model.specs.Sides.{any_sent, kind}
use Rattle.model.specs.Joined.{label_words, own_label, labelled}
use Rattle.model.specs.Positions.{any}
use Rattle.model.specs.Judged.{all, tally, same_list, with_move, with_moves, joint_moves, names?, once?, follows?, fulfils?, obeys?, matched?, until_by, always_for, Verdict, accepted, unmatched, violated, number, judged}
use Rattle.model.specs.Waits.{first}
use Rattle.model.specs.Blame.{Blamed, first_fault}
use Rattle.model.specs.BlameRows.{BlameRow, Blames, blame_rows}
use Rattle.model.proofs.Bools.{and_both}
use Rattle.model.proofs.Lists.{all_in}
use Rattle.model.proofs.Judged.{judged_violated}
use Rattle.model.proofs.Blame.{blamed}
use Rattle.model.proofs.Formed.{all_below, distinct?, state?, sends?, kind?, side?, lower?, prop?, props?, parts?, well_formed?, formed}

unfoldable blame_test : BlameRow → Bool
blame_test r = well_formed? r.design && (eqb (number (judged r.design r.converter)) (number violated) && eqb (first_fault r.design r.converter) r.place)

rows_pass : T (all blame_test blame_rows)
unfolding blame_test all any
    well_formed? parts? side? all_below state? distinct? kind? sends? any_sent lower? props? prop?
    judged matched? obeys? names? once? follows? fulfils? joint_moves with_moves with_move same_list tally duty any_input any_delayed kind until_by always_for labelled own_label label_words
    first first_fault
rows_pass = tt

says_violated : (v : Verdict) → T (eqb (number v) (number violated)) → v ≡ violated
says_violated accepted t = absurd t
says_violated unmatched t = absurd t
says_violated violated t = refl

row_true : (r : BlameRow) → T (blame_test r) → Blames r
unfolding blame_test
row_true r t =
    let w = and_both (well_formed? r.design) (eqb (number (judged r.design r.converter)) (number violated) && eqb (first_fault r.design r.converter) r.place) t in
    let x = and_both (eqb (number (judged r.design r.converter)) (number violated)) (eqb (first_fault r.design r.converter) r.place) w.1 in
    let wf = formed r.design w.0 in
    let e = says_violated (judged r.design r.converter) x.0 in
    let is = eqb→eq (first_fault r.design r.converter) r.place x.1 in
    let m = ((judged_violated r.design wf r.converter).0 e).0 in
    (wf, m, subst (Blamed r.design r.converter) is (blamed r.design wf r.converter m e), is)

-- the theorem: every row is true
pub blame_rows_true : (r : BlameRow) → In r blame_rows → Blames r
blame_rows_true r i = row_true r (all_in blame_test i rows_pass)
