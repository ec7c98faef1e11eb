-- Arrays made element by element, by a function that stays as it is: by number (`from_fn`), and from another array (`map`).
use Rattle.std.proofs.Common.{◌≡◌, ℕ, zero, suc, ◌+◌, ◌<◌, List, [], ◌∷◌, map, length, get_or, sym, ap, ◌∙◌, subst, not-suc-le-zero, arith, ext_get_or}
use denote.Param.Members.{Mut, Called}
use Rattle.std.specs.Array.{IsFromFnResultFrom, IsFromFnResult, MapsFrom, IsMapOf, list_steps}
use Rattle.std.specs.Iterator.{AlwaysYields}
use Rattle.std.proofs.lemmas.Iterator.{YieldsList}
use lib.ListN.{length-map, get_or-map}
use Rattle.std.proofs.lemmas.List.{get_or_default}
use Rattle.layout.specs.Tables.{table}
use Rattle.layout.proofs.Tables.{length_table, entry}

-- ---- by number: the array is the table of what the function gives
module _ {F B : Type 0} {g : Mut F (ℕ × Unit {0}) B} (f : F) (h : ℕ → B) (d : B) where
  made_at : (ys : List B) (n i : ℕ) → IsFromFnResultFrom g f ys i n
      → ((j : ℕ) (y : B) (q : F) → j < i + n → Called g f (j, tt) y q → (q ≡ f) × (y ≡ h j))
      → (k j : ℕ) → i + k ≡ j → k < n → get_or ys j d ≡ h j
  made_at ys zero i m gives k j e l = absurd (not-suc-le-zero l)
  made_at ys (suc n) i m gives zero j e l =
      let here : i ≡ j = omega arith in
      sym (ap (λ k. get_or ys k d) here) ∙ m.2.1 d ∙ (gives i m.1 m.0 (omega arith) m.3).1 ∙ ap h here
  made_at ys (suc n) i m gives (suc k) j e l =
      let stays : m.0 ≡ f = (gives i m.1 m.0 (omega arith) m.3).0 in
      made_at ys n (i + 1) (subst (λ p. IsFromFnResultFrom g p ys (i + 1) n) stays m.4) (λ o y q u. gives o y q (omega arith)) k j (omega arith) (omega arith)

  pub table_from_fn : {ys : List B} {n : ℕ} → IsFromFnResult g f ys n
      → ((j : ℕ) (y : B) (q : F) → j < n → Called g f (j, tt) y q → (q ≡ f) × (y ≡ h j)) → ys ≡ table n h
  table_from_fn {ys} {n} made gives =
      ext_get_or d ys (table n h) (made.long ∙ sym (length_table h n)) (λ j l.
      let u : j < n = omega (arith, made.long) in
      made_at ys n 0 made.each (λ o y q v. gives o y q (omega arith)) j j (omega arith) u ∙ sym (entry h d n j u))

-- ---- from another array: the entries are what the function gives of its entries
module _ {F A B : Type 0} {g : Mut F (A × Unit {0}) B} (f : F) (h : A → B) (c : A) (d : B) where
  -- one call
  came : (xs : List A) (ys : List B) (n i : ℕ) (m : MapsFrom g f xs ys i (suc n))
      → ((j : ℕ) (y : B) (q : F) → j < i + suc n → Called g f (get_or xs j c, tt) y q → (q ≡ f) × (y ≡ h (get_or xs j c)))
      → (m.0 ≡ f) × (m.2 ≡ h (get_or xs i c))
  came xs ys n i m gives = gives i m.2 m.0 (omega arith) (subst (λ x. Called g f (x, tt) m.2 m.0) (sym (m.3.1 c)) m.5)

  mapped_at : (xs : List A) (ys : List B) (n i : ℕ) → MapsFrom g f xs ys i n
      → ((j : ℕ) (y : B) (q : F) → j < i + n → Called g f (get_or xs j c, tt) y q → (q ≡ f) × (y ≡ h (get_or xs j c)))
      → (k j : ℕ) → i + k ≡ j → k < n → get_or ys j d ≡ h (get_or xs j c)
  mapped_at xs ys zero i m gives k j e l = absurd (not-suc-le-zero l)
  mapped_at xs ys (suc n) i m gives zero j e l =
      let here : i ≡ j = omega arith in
      sym (ap (λ k. get_or ys k d) here) ∙ m.4.1 d ∙ (came xs ys n i m gives).1 ∙ ap (λ k. h (get_or xs k c)) here
  mapped_at xs ys (suc n) i m gives (suc k) j e l =
      mapped_at xs ys n (i + 1) (subst (λ p. MapsFrom g p xs ys (i + 1) n) (came xs ys n i m gives).0 m.6) (λ o y q u. gives o y q (omega arith)) k j (omega arith) (omega arith)

  pub table_from_map : {xs : List A} {ys : List B} {n : ℕ} → IsMapOf g f xs ys n
      → ((j : ℕ) (y : B) (q : F) → j < n → Called g f (get_or xs j c, tt) y q → (q ≡ f) × (y ≡ h (get_or xs j c))) → ys ≡ table n (λ j. h (get_or xs j c))
  table_from_map {xs} {ys} {n} made gives =
      ext_get_or d ys (table n (λ j. h (get_or xs j c))) (made.long ∙ sym (length_table (λ j. h (get_or xs j c)) n)) (λ j l.
      let u : j < n = omega (arith, made.long) in
      mapped_at xs ys n 0 made.each (λ o y q v. gives o y q (omega arith)) j j (omega arith) u ∙ sym (entry (λ j. h (get_or xs j c)) d n j u))

-- where what w reads of an entry is h of the entry that it was made from
pub map_from_map : {F A B C : Type 0} {g : Mut F (A × Unit {0}) B} (f : F) (w : B → C) (h : A → C) (c : A) (d : B) {xs : List A} {ys : List B} {n : ℕ}
    → IsMapOf g f xs ys n → length xs ≡ n → ((j : ℕ) (p : F) (y : B) (q : F) → j < n → Called g p (get_or xs j c, tt) y q → w y ≡ h (get_or xs j c)) → map w ys ≡ map h xs
map_from_map f w h c d {xs} {ys} {n} made long gives =
    ext_get_or (w d) (map w ys) (map h xs) (length-map ys w ∙ made.long ∙ sym long ∙ sym (length-map xs h)) (λ j l.
    let u : j < n = omega (arith, made.long, length-map ys w) in
    let m = made.at j c d u in
    get_or-map w ys j d ∙ gives j m.0 (get_or ys j d) m.1 u m.2 ∙ sym (get_or-map h xs j c) ∙ get_or_default (map h xs) j (h c) (w d) (omega (arith, long, length-map xs h)))

-- what a function may be asked at each entry
pub YieldsList-from_list : {A : Type 0} (xs : List A) → YieldsList list_steps (λ x. x) xs xs
YieldsList-from_list [] = record { runs = λ x j e. cc }
YieldsList-from_list (x ∷ xs) =
    record { runs = (λ j e. cc, λ y j e. let rest : xs ≡ j = cc in (cc, subst (λ s. AlwaysYields list_steps (λ z. z) s xs) rest (YieldsList-from_list xs).runs)) }
