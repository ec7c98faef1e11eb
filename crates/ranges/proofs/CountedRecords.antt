-- A state that counts, as a record whose places are filled one after the other.
use mathlib.Core.Path.{◌≡◌, refl, sym, ap, ap₂, ◌∙◌}
use mathlib.Core.Bool.{Bool, true, false, cond}
use mathlib.Core.List.{List, [], ◌∷◌, ◌++◌, map, flatten, append-nil}
use Prim.Native.Nat.{ℕ, ◌+◌, ◌<◌}
use native.Mathlib.Omega.{arith}
use lib.Dec.{leb}
use lib.ListN.{length, get_or, set}
use lib.Seq.{get_or-set_same, get_or-set_other}
use Rattle.model.specs.Events.{sent}
use Rattle.model.specs.Sides.{Move, no_move}
use Rattle.model.specs.Ranges.{Range, below, onward, counted_move}
use Rattle.layout.specs.declared.states.Place.{Place}
use Rattle.layout.specs.declared.states.StateRecord.{StateRecord}
use Rattle.layout.specs.Tables.{table}
use Rattle.layout.specs.States.{no_place, move_of, state_of}
use Rattle.layout.proofs.Tables.{table_same, table_map}
use Rattle.layout.proofs.Pieces.{table_more, pieces_more}
use Rattle.layout.proofs.RecordMoves.{moves_length, move_at}

-- the transitions in the first n places
abbrev pub moves_in : List Place → ℕ → List Move
moves_in ps n = table n (λ j. move_of (get_or ps j no_place))

-- one more
moves_more : (ps : List Place) (n : ℕ) (p : Place) → n < length ps → moves_in (set ps n p) (n + 1) ≡ moves_in ps n ++ (move_of p ∷ [])
moves_more ps n p h =
    table_more (λ j. move_of (get_or (set ps n p) j no_place)) n
    ∙ ap₂ {C = List Move} (λ l m. l ++ (m ∷ []))
    (table_same _ _ n (λ j l. ap move_of (get_or-set_other ps n j p no_place (λ e. omega arith))))
    (ap move_of (get_or-set_same ps n p no_place h))

module _ (r : Range) (n k : ℕ) where
  -- what is kept of a transition, and how it then stands
  abbrev pub kept : Move → Bool
  kept m = cond (sent m.event) (leb r.least k) (below k r.greatest)

  abbrev pub stands : Move → Move
  stands m = cond (sent m.event) m (record { event = m.event; target = onward r n k })

  move_kept : (s l g : Bool) (m w : Move) → cond s (cond l (m ∷ []) []) (cond g (w ∷ []) []) ≡ cond (cond s l g) (cond s m w ∷ []) []
  move_kept true true g m w = refl
  move_kept true false g m w = refl
  move_kept false l true m w = refl
  move_kept false l false m w = refl

  is_kept : (m : Move) → kept m ≡ true → counted_move r n k m ≡ stands m ∷ []
  unfolding counted_move
  is_kept m e = move_kept (sent m.event) (leb r.least k) (below k r.greatest) m _ ∙ rw e

  is_dropped : (m : Move) → kept m ≡ false → counted_move r n k m ≡ []
  unfolding counted_move
  is_dropped m e = move_kept (sent m.event) (leb r.least k) (below k r.greatest) m _ ∙ rw e

  module _ (q : StateRecord) where
    -- what stands for the first p transitions
    abbrev pub counted_to : ℕ → List Move
    counted_to p = flatten (table p (λ j. counted_move r n k (move_of (get_or q.places j no_place))))

    counted_more : (p : ℕ) → counted_to (p + 1) ≡ counted_to p ++ counted_move r n k (move_of (get_or q.places p no_place))
    counted_more p = pieces_more (λ j. counted_move r n k (move_of (get_or q.places j no_place))) p

    -- a turn that keeps transition p, and one that doesn't
    abbrev at : ℕ → Move
    at p = move_of (get_or q.places p no_place)

    pub kept_turn : (ps : List Place) (i p : ℕ) (v : Place) → i < length ps → moves_in ps i ≡ counted_to p → kept (at p) ≡ true → move_of v ≡ stands (at p)
        → moves_in (set ps i v) (i + 1) ≡ counted_to (p + 1)
    kept_turn ps i p v h e t f =
        moves_more ps i v h ∙ ap₂ {C = List Move} (λ l m. l ++ (m ∷ [])) e f ∙ sym (counted_more p ∙ ap (λ l. counted_to p ++ l) (is_kept (at p) t))

    pub dropped_turn : (p : ℕ) → kept (at p) ≡ false → counted_to (p + 1) ≡ counted_to p
    dropped_turn p t = counted_more p ∙ ap (λ l. counted_to p ++ l) (is_dropped (at p) t) ∙ append-nil (counted_to p)

    -- and for all of them
    pub counted_all : flatten (map (counted_move r n k) (state_of q).moves) ≡ counted_to q.count
    counted_all =
        ap flatten
        (sym (table_map (counted_move r n k) no_move (state_of q).moves q.count (moves_length q))
        ∙ table_same _ _ q.count (λ j h. ap (counted_move r n k) (move_at q j h)))
