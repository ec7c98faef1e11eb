-- A tick at the bytes is the model's tick with 17 for everything refused, where the converter's size is right and so is the record, if it is there.
use mathlib.Core.Path.{◌≡◌, refl, sym, ap, subst, ◌∙◌}
use mathlib.Core.Bool.{Bool, true, false, cond}
use mathlib.Core.List.{List, [], ◌∷◌}
use mathlib.Core.Option.{Option, none, some}
use Prim.Native.Nat.{ℕ, zero, suc, ◌*◌, ◌≤◌, ◌<◌}
use native.Mathlib.Decide.{dec_lt}
use native.Mathlib.Omega.{arith}
use borrow.Author.Tests.{le-leb, le-ltb, lt-ltb}
use lib.IntN.{pos, negsuc}
use lib.ListN.{length, get_or, length-map, get_or-eq_default}
use Rattle.model.specs.Events.{Event, tick, InRange, dual, duals, shown, shows}
use Rattle.model.specs.Converters.{Edge, Node, no_node, node, edge, side_events}
use Rattle.model.specs.Judged.{all}
use Rattle.model.specs.Runs as model
use Rattle.model.specs.Runs.{first_fit}
use Rattle.model.proofs.Fits.{ShowsAt, Found, found, none_fits, find}
use Rattle.layout.specs.Sizes.{side_count, record_bytes}
use Rattle.layout.specs.Tables.{table, table_from}
use Rattle.layout.specs.Converters.{records, converter}
use Rattle.refusals.specs.Refusals.{first_failing, size_right, record_right}
use Rattle.refusals.proofs.Accepted.{converter_length, events_length, right_well_formed}
use Rattle.layout.proofs.Nodes.{WellFormedNode}
use Rattle.layout.proofs.Tables.{as_table, and_true}
use Rattle.runner.specs.declared.Runner.{Runner}
use Rattle.runner.specs.Ticks.{delivered, can_show, tick_refusal, refused, moved_by, taken, ticked}
use Rattle.runner.specs.Runs.{runner_of, ticked_of}
use Rattle.runner.proofs.Refusals.{goes_on, stays}

-- ---- what fits a record's transition can be shown
-- the side event of an event in range shows 0 or a sent event in range
shown_can : (e : Event) → InRange e → can_show (shown (dual e)) ≡ true
unfolding can_show
shown_can (pos zero) h = refl
shown_can (pos (suc n)) h = le-leb (suc n) 63 h
shown_can (negsuc n) h = refl

shows_can : (es : List Event) → ((i : ℕ) → i < length es → InRange (get_or es i tick)) → all can_show (shows (duals es)) ≡ true
unfolding all
shows_can [] f = refl
shows_can (e ∷ es) f = and_true (can_show (shown (dual e))) (all can_show (shows (duals es))) (shown_can e (f 0 (omega arith))) (shows_can es (λ i h. f (suc i) (omega arith)))

module _ (cs : List ℕ) (r : Runner) (xs : List Event) (sized : size_right cs ≡ true) where
  -- the runner's record as a converter state
  abbrev here : Node
  here = node (converter cs) r.«record»

  -- the model's tick, of the decoded converter and runner
  abbrev decoded : model.Ticked
  decoded = model.ticked (converter cs) (runner_of r) xs

  -- by what fits among its transitions
  fitting : (o : Option Edge) → first_fit xs here.edges ≡ o → model.taken (runner_of r) o ≡ decoded
  unfolding model.ticked
  fitting o p = sym (ap (model.taken (runner_of r)) p)

  -- where the tests give 17, that is the model's answer where nothing fits
  refuses : tick_refusal cs r.«record» xs ≡ 17 → ticked_of (ticked cs r xs) ≡ model.taken (runner_of r) none
  unfolding model.taken
  refuses e = ap ticked_of (stays cs r xs (λ z. let h : 17 ≡ 0 = sym e ∙ z in omega arith) ∙ ap (refused r) e)

  -- ---- the record isn't there
  absent : records cs ≤ r.«record» → ticked_of (ticked cs r xs) ≡ decoded
  unfolding tick_refusal first_failing first_fit
  absent h =
      refuses (rw (sized, le-ltb r.«record» (records cs) h))
      ∙ fitting none (ap (λ d. first_fit xs d.edges) (get_or-eq_default (converter cs) no_node (omega (arith, converter_length cs))))

  -- ---- the record is there, and right
  module _ (there : r.«record» < records cs) (right : record_right cs (records cs) (record_bytes * r.«record») ≡ true) where
    formed : WellFormedNode (records cs) here
    formed = right_well_formed cs r.«record» there right

    -- the tests that are left
    refusal : tick_refusal cs r.«record» xs ≡ cond (all can_show xs) 0 17
    unfolding tick_refusal first_failing
    refusal = rw (sized, lt-ltb r.«record» (records cs) there, right)

    -- transition j has a side event for each side, and delivers them
    delivers : (j : ℕ) → j < length here.edges
        → delivered (moved_by (edge here j)) ≡ side_events (edge here j)
    unfolding table table_from
    delivers j h =
        let e = edge here j in
        sym (as_table tick side_count (side_events e) (length-map e.events dual ∙ events_length cs r.«record» j there h (omega (arith, formed.at_most_eight))))

    -- what shows a transition can be shown
    can : (j : ℕ) → j < length here.edges → ShowsAt xs here.edges j → all can_show xs ≡ true
    can j h g = subst (λ ys. all can_show ys ≡ true) g (shows_can (edge here j).events (formed.in_range_at j h))

    -- a transition fits
    takes : (j : ℕ) → j < length here.edges → all can_show xs ≡ true
        → first_fit xs here.edges ≡ some (edge here j) → ticked_of (ticked cs r xs) ≡ decoded
    unfolding taken model.taken
    takes j h g p =
        let e = edge here j in
        ap ticked_of (goes_on cs r xs (refusal ∙ ap (λ b. cond b 0 17) g) ∙ ap (taken r) p)
        ∙ ap (λ es. record { answer = model.done; runner = record { at = e.next; delivered = es } }) (delivers j h)
        ∙ fitting (some e) p

    -- none does
    none_taken : first_fit xs here.edges ≡ none → (b : Bool) → all can_show xs ≡ b → ticked_of (ticked cs r xs) ≡ decoded
    unfolding taken model.taken
    none_taken p true g = ap ticked_of (goes_on cs r xs (refusal ∙ ap (λ b. cond b 0 17) g) ∙ ap (taken r) p) ∙ fitting none p
    none_taken p false g = refuses (refusal ∙ ap (λ b. cond b 0 17) g) ∙ fitting none p

    present : Found xs here.edges → ticked_of (ticked cs r xs) ≡ decoded
    present (found j h p g first) = takes j h (can j h g) p
    present (none_fits p f) = none_taken p (all can_show xs) refl

  -- the theorem
  pub in_model : (r.«record» < records cs → record_right cs (records cs) (record_bytes * r.«record») ≡ true) → ticked_of (ticked cs r xs) ≡ decoded
  in_model right = by (dec_lt r.«record» (records cs))
    where
      by : Dec (r.«record» < records cs) → ticked_of (ticked cs r xs) ≡ decoded
      by (yes h) = present h (right h) (find xs here.edges)
      by (no n) = absent (omega arith)
