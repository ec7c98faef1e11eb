-- The kind of a state, and what the theorems of the method use of a side (`Regular`): of refusal 6, that each state has a kind.
use mathlib.Core.Path.{◌≡◌, refl, sym, ap, ap₂, subst, subst⁻¹, ◌∙◌}
use mathlib.Core.Bool.{Bool, true, false, not, cond}
use mathlib.Core.Logic.{◌⊎◌, inl, inr, ⊎_elim}
use mathlib.Core.List.Memᴰ.{cases_cons as in-cases}
use mathlib.Core.List.Memᴰ.{head as here}
use mathlib.Core.List.Memᴰ.{tail as there}
use mathlib.Core.List.{List, [], ◌∷◌, Memᴰ as In}
use Prim.Native.Nat.{ℕ, ◌<◌}
use native.Mathlib.Omega.{arith}
use lib.IntN.{pos, negsuc}
use lib.Dec.{T, T_not, eqb}
use lib.ListN.{length, get_or}
use Rattle.model.specs.Events.{Event, tick, sent, shown}
use Rattle.model.specs.Sides.{Move, State, Side, state, no_move, Kind, input, output_only, delayed, IsInput, IsOutputOnly, IsDelayed, IsKind, any_sent, kind, WellFormedSide}
use Rattle.model.proofs.Bools.{or_either, or_left, or_right, T_false, T_true}
use Rattle.model.proofs.Lists.{index_in, first_in}

-- ---- `any_sent`
pub sent_any : (l : List Move) (m : Move) → In m l → T (sent m.event) → T (any_sent l)
unfolding any_sent
sent_any [] m i t = elim i [ ]
sent_any (x ∷ xs) m i t =
    ⊎_elim
    (λ (e : m ≡ x). or_left (sent x.event) (any_sent xs) (subst (λ (y : Move). T (sent y.event)) e t))
    (λ (j : In m xs). or_right (sent x.event) (any_sent xs) (sent_any xs m j t))
    (in-cases i)

pub any_unsent : (l : List Move) → ((m : Move) → In m l → T (not (sent m.event))) → T (any_sent l) → ⊥
unfolding any_sent
any_unsent [] h t = t
any_unsent (x ∷ xs) h t =
    ⊎_elim (λ (a : T (sent x.event)). T_not (sent x.event) (h x (here refl)) a) (λ (a : T (any_sent xs)). any_unsent xs (λ m i. h m (there i)) a) (or_either (sent x.event) (any_sent xs) t)

-- ---- each of the specification's three kinds is what `kind` says
pub kind_input : (q : State) → IsInput q → kind q ≡ input
unfolding kind
kind_input q h = ap (λ (b : Bool). cond b (cond (eqb (length q.moves) 1) output_only delayed) input) (T_false (any_sent q.moves) (any_unsent q.moves h))

pub kind_output_only : (q : State) → IsOutputOnly q → kind q ≡ output_only
unfolding kind
kind_output_only q h =
    let s : any_sent q.moves ≡ true = T_true (any_sent q.moves) (sent_any q.moves h.0 (subst⁻¹ (λ (l : List Move). In h.0 l) h.1 (here refl)) h.2) in
    ap₂ (λ (a b : Bool). cond a (cond b output_only delayed) input) s (ap (λ (l : List Move). eqb (length l) 1) h.1)

-- the moves of a delayed state, in whichever order
module _ (q : State) (h : IsDelayed q) where
  pub sends_in : In h.0 q.moves
  sends_in =
      ⊎_elim
      (λ (e : q.moves ≡ h.0 ∷ h.1 ∷ []). subst⁻¹ (λ (l : List Move). In h.0 l) e (here refl))
      (λ (e : q.moves ≡ h.1 ∷ h.0 ∷ []). subst⁻¹ (λ (l : List Move). In h.0 l) e (there (here refl)))
      h.2

  pub ticks_in : In h.1 q.moves
  ticks_in =
      ⊎_elim
      (λ (e : q.moves ≡ h.0 ∷ h.1 ∷ []). subst⁻¹ (λ (l : List Move). In h.1 l) e (there (here refl)))
      (λ (e : q.moves ≡ h.1 ∷ h.0 ∷ []). subst⁻¹ (λ (l : List Move). In h.1 l) e (here refl))
      h.2

pub kind_delayed : (q : State) → IsDelayed q → kind q ≡ delayed
unfolding kind
kind_delayed q h =
    let two : eqb (length q.moves) 1 ≡ false = ⊎_elim
    (λ (e : q.moves ≡ h.0 ∷ h.1 ∷ []). ap (λ (l : List Move). eqb (length l) 1) e)
    (λ (e : q.moves ≡ h.1 ∷ h.0 ∷ []). ap (λ (l : List Move). eqb (length l) 1) e)
    h.2 in
    ap₂ (λ (a b : Bool). cond a (cond b output_only delayed) input) (T_true (any_sent q.moves) (sent_any q.moves h.0 (sends_in q h) h.3)) two

-- a state has no other kind
pub kind_only : (k : Kind) (q : State) → IsKind k q → kind q ≡ k
kind_only input q h = kind_input q h
kind_only output_only q h = kind_output_only q h
kind_only delayed q h = kind_delayed q h

-- ---- what the theorems use of a state with n states beside it
pub record RegularState (n : ℕ) (q : State) : Type 0 where
  pub some_move : (m : Move) × In m q.moves
  pub inside : (m : Move) → In m q.moves → m.target < n
  -- a move is known by its event
  pub by_event : (m w : Move) → In m q.moves → In w q.moves → m.event ≡ w.event → m ≡ w
  -- in a state that sends, by what it shows
  pub by_show : (kind q ≡ input → ⊥) → (m w : Move) → In m q.moves → In w q.moves → shown m.event ≡ shown w.event → m ≡ w
  -- a state that isn't delayed shows one thing
  pub one_show : (kind q ≡ delayed → ⊥) → (m w : Move) → In m q.moves → In w q.moves → shown m.event ≡ shown w.event

pub record Regular (S : Side) : Type 0 where
  pub some_state : 0 < length S
  pub each : (s : ℕ) → s < length S → RegularState (length S) (state S s)

-- ---- a well-formed side is regular
pub shown_unsent : (e : Event) → T (not (sent e)) → shown e ≡ tick
shown_unsent (pos n) h = refl
shown_unsent (negsuc n) h = absurd h

pub shown_sent : (e : Event) → T (sent e) → shown e ≡ e
shown_sent (pos n) h = absurd h
shown_sent (negsuc n) h = refl

-- a sent event is not shown as the tick
pub sent_no_tick : (e : Event) → T (sent e) → shown e ≡ tick → ⊥
sent_no_tick (pos n) h e = h
sent_no_tick (negsuc n) h e = let z : ◌≡◌ {A = ℕ} 0 1 = cc in omega arith

-- the members of a list of one, and of two
pub lone : (x : Move) (l : List Move) → l ≡ x ∷ [] → (m : Move) → In m l → m ≡ x
lone x l e m i = ⊎_elim (λ (p : m ≡ x). p) (λ (j : In m []). elim j [ ]) (in-cases (subst (λ (k : List Move). In m k) e i))

pub pair : (x y : Move) (l : List Move) → (l ≡ x ∷ y ∷ []) ⊎ (l ≡ y ∷ x ∷ []) → (m : Move) → In m l → (m ≡ x) ⊎ (m ≡ y)
pair x y l (inl e) m i = ⊎_elim (λ (p : m ≡ x). inl p) (λ (j : In m (y ∷ [])). inr (lone y (y ∷ []) refl m j)) (in-cases (subst (λ (k : List Move). In m k) e i))
pair x y l (inr e) m i = ⊎_elim (λ (p : m ≡ y). inr p) (λ (j : In m (x ∷ [])). inl (lone x (x ∷ []) refl m j)) (in-cases (subst (λ (k : List Move). In m k) e i))

-- the move of a state that sends, by what it shows
pub show_known : (k : Kind) (q : State) → IsKind k q → (kind q ≡ input → ⊥) → (m w : Move) → In m q.moves → In w q.moves → shown m.event ≡ shown w.event → m ≡ w
show_known input q h n m w i j e = absurd (n (kind_input q h))
show_known output_only q h n m w i j e = lone h.0 q.moves h.1 m i ∙ sym (lone h.0 q.moves h.1 w j)
show_known delayed q h n m w i j e = by (pair h.0 h.1 q.moves h.2 m i) (pair h.0 h.1 q.moves h.2 w j)
  where
    -- the sent move and the tick are not shown alike
    apart : (a b : Move) → a ≡ h.0 → b ≡ h.1 → shown a.event ≡ shown b.event → ⊥
    apart a b p r g =
        let waits : b.event ≡ tick = ap (λ (x : Move). x.event) r ∙ h.4 in
        sent_no_tick a.event (subst⁻¹ (λ (x : Move). T (sent x.event)) p h.3) (g ∙ ap shown waits)

    by : (m ≡ h.0) ⊎ (m ≡ h.1) → (w ≡ h.0) ⊎ (w ≡ h.1) → m ≡ w
    by (inl p) (inl r) = p ∙ sym r
    by (inr p) (inr r) = p ∙ sym r
    by (inl p) (inr r) = absurd (apart m w p r e)
    by (inr p) (inl r) = absurd (apart w m r p (sym e))

pub one_shown : (k : Kind) (q : State) → IsKind k q → (kind q ≡ delayed → ⊥) → (m w : Move) → In m q.moves → In w q.moves → shown m.event ≡ shown w.event
one_shown input q h n m w i j = shown_unsent m.event (h m i) ∙ sym (shown_unsent w.event (h w j))
one_shown output_only q h n m w i j = ap (λ (x : Move). shown x.event) (lone h.0 q.moves h.1 m i ∙ sym (lone h.0 q.moves h.1 w j))
one_shown delayed q h n m w i j = absurd (n (kind_delayed q h))

pub regular : (S : Side) → WellFormedSide S → Regular S
regular S wf =
    record {
      some_state = wf.some_state;
      each = λ s hs.
          let q = state S s in
          let f = wf.each s hs in
          let k = wf.kinds s hs in
          record {
            some_move = first_in q.moves f.some_move;
            inside = f.inside;
            by_event = λ m w i j e.
                let a = index_in no_move i in
                let b = index_in no_move j in
                let same : a.0 ≡ b.0 = f.once a.0 b.0 a.1 b.1 (ap (λ (x : Move). x.event) a.2 ∙ e ∙ sym (ap (λ (x : Move). x.event) b.2)) in
                sym a.2 ∙ ap (λ (x : ℕ). get_or q.moves x no_move) same ∙ b.2;
            by_show = show_known k.0 q k.1;
            one_show = one_shown k.0 q k.1;
          };
    }
