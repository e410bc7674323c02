-- Lists that grow by one element, and what is made of them.

use Rattle.std.proofs.Common.{◌≡◌, ◌≢◌, ℕ, ◌+◌, ◌<◌, ◌≤◌, Bool, true, false, cond, eqb, List, [], ◌∷◌, ◌++◌, length, get_or, set, take, map, refl, sym, ap, ◌∙◌, inl, inr, arith}
use Rattle.std.proofs.lemmas.Bool.{cases_eq, eq-eqb, ne_eqb}
use Rattle.std.proofs.lemmas.List.{append-nil, length-append, length-take, append_assoc, get_or-set_other, get_or-set_same, map-append, map-id, map_push, take_more}
use Rattle.std.proofs.lemmas.List.Elements.{filter-append}
use Rattle.std.proofs.lemmas.List.FromFn.{map-range_with_len_more}
use Rattle.std.specs.List.{filter, flat_map, range_with_len}
use Rattle.gs_survey.specs.Numbers.{given}

-- ---- ranges

pub range_push : (n : ℕ) → range_with_len 0 (n + 1) ≡ range_with_len 0 n ++ n ∷ []
range_push n = sym (map-id (range_with_len 0 (n + 1))) ∙ map-range_with_len_more (λ (x : ℕ). x) 0 n n (omega arith) ∙ ap (λ xs. xs ++ n ∷ []) (map-id (range_with_len 0 n))

pub flat_push : {X A : Type 0} (f : X → List A) (xs : List X) (x : X) → flat_map f (xs ++ x ∷ []) ≡ flat_map f xs ++ f x
flat_push f [] x = append-nil (f x)
flat_push f (y ∷ xs) x = ap (λ zs. f y ++ zs) (flat_push f xs x) ∙ sym (append_assoc (f y) (flat_map f xs) (f x))

pub flat_range : {A : Type 0} (f : ℕ → List A) (n : ℕ) → flat_map f (range_with_len 0 (n + 1)) ≡ flat_map f (range_with_len 0 n) ++ f n
flat_range f n = ap (flat_map f) (range_push n) ∙ flat_push f (range_with_len 0 n) n

pub filter_push : {X : Type 0} (p : X → Bool) (xs : List X) (x : X) → filter p (xs ++ x ∷ []) ≡ filter p xs ++ cond (p x) (x ∷ []) []
filter_push p [] x = refl
filter_push p (y ∷ xs) x = by_test (p y) (filter_push p xs x)
  where
    by_test : (b : Bool) → filter p (xs ++ x ∷ []) ≡ filter p xs ++ cond (p x) (x ∷ []) []
        → cond b (y ∷ filter p (xs ++ x ∷ [])) (filter p (xs ++ x ∷ [])) ≡ cond b (y ∷ filter p xs) (filter p xs) ++ cond (p x) (x ∷ []) []
    by_test true e = ap (λ zs. y ∷ zs) e
    by_test false e = e

pub filter_yes : {X : Type 0} (p : X → Bool) (xs : List X) (x : X) → p x ≡ true → filter p (xs ++ x ∷ []) ≡ filter p xs ++ x ∷ []
filter_yes p xs x e = filter_push p xs x ∙ ap (λ b. filter p xs ++ cond b (x ∷ []) []) e

pub filter_no : {X : Type 0} (p : X → Bool) (xs : List X) (x : X) → p x ≡ false → filter p (xs ++ x ∷ []) ≡ filter p xs
filter_no p xs x e = filter_push p xs x ∙ ap (λ b. filter p xs ++ cond b (x ∷ []) []) e ∙ append-nil (filter p xs)

pub filter_range_yes : (p : ℕ → Bool) (n : ℕ) → p n ≡ true → filter p (range_with_len 0 (n + 1)) ≡ filter p (range_with_len 0 n) ++ n ∷ []
filter_range_yes p n e = ap (filter p) (range_push n) ∙ filter_yes p (range_with_len 0 n) n e

pub filter_range_no : (p : ℕ → Bool) (n : ℕ) → p n ≡ false → filter p (range_with_len 0 (n + 1)) ≡ filter p (range_with_len 0 n)
filter_range_no p n e = ap (filter p) (range_push n) ∙ filter_no p (range_with_len 0 n) n e

pub filter_range_long : (p : ℕ → Bool) (n : ℕ) → length (filter p (range_with_len 0 (n + 1))) ≡ length (filter p (range_with_len 0 n)) + cond (p n) 1 0
filter_range_long p n = by_test (p n) refl
  where
    by_test : (b : Bool) → p n ≡ b → length (filter p (range_with_len 0 (n + 1))) ≡ length (filter p (range_with_len 0 n)) + cond b 1 0
    by_test true e = rw (filter_range_yes p n e) (simp length-append)
    by_test false e = rw (filter_range_no p n e) (omega arith)

-- ---- one more element of a list

module _ {X : Type 0} (xs : List X) (i : ℕ) (x : X) (lt : i < length xs) (is : x ≡ get_or xs i x) where
  pub one_more : take (i + 1) xs ≡ take i xs ++ x ∷ []
  one_more = take_more xs i x lt ∙ ap (λ y. take i xs ++ y ∷ []) (sym is)

  pub map_take : {A : Type 0} (f : X → A) → map f (take (i + 1) xs) ≡ map f (take i xs) ++ f x ∷ []
  map_take f = ap (map f) one_more ∙ map_push f (take i xs) x

-- ---- values given

given_push : {V : Type 0} (ns : List ℕ) (vs : List V) (other : V) (m : ℕ) (v : V) (n : ℕ) → length ns ≡ length vs → given (ns ++ m ∷ []) (vs ++ v ∷ []) other n ≡ cond (eqb m n) v (given ns vs other n)
given_push [] [] other m v n e = refl
given_push [] (w ∷ vs) other m v n e = absurd (omega arith)
given_push (k ∷ ns) [] other m v n e = absurd (omega arith)
given_push (k ∷ ns) (w ∷ vs) other m v n e = given_push ns vs (cond (eqb k n) w other) m v n (omega arith)

module _ {V : Type 0} (out : List V) (ns : List ℕ) (vs : List V) (other : V) (count i : ℕ) (many : length out ≡ count) (same : length ns ≡ length vs) (lt : i < length ns)
    (inside : get_or ns i 0 < count) (v : V) (is : v ≡ get_or vs i v) (each : (n : ℕ) (d : V) → n < count → get_or out n d ≡ given (take i ns) (take i vs) other n) where
  given_more : (n : ℕ) → given (take (i + 1) ns) (take (i + 1) vs) other n ≡ cond (eqb (get_or ns i 0) n) v (given (take i ns) (take i vs) other n)
  given_more n =
      let lt_v : i < length vs = omega arith in
      let long : length (take i ns) ≡ length (take i vs) = simp length-take (omega arith) in
      rw (take_more ns i 0 lt, one_more vs i v lt_v is) (given_push (take i ns) (take i vs) other (get_or ns i 0) v n long)

  pub spread_more : (n : ℕ) (d : V) → n < count → get_or (set out (get_or ns i 0) v) n d ≡ given (take (i + 1) ns) (take (i + 1) vs) other n
  spread_more n d n_in = elim (cases_eq (get_or ns i 0) n) [ inl e ↦ here e | inr ne ↦ there ne ]
    where
      here : get_or ns i 0 ≡ n → get_or (set out (get_or ns i 0) v) n d ≡ given (take (i + 1) ns) (take (i + 1) vs) other n
      here e =
          let in_out : n < length out = omega arith in
          rw (e, get_or-set_same out n v d in_out) (sym (given_more n ∙ ap (λ b. cond b v (given (take i ns) (take i vs) other n)) (eq-eqb (get_or ns i 0) n e)))

      there : (get_or ns i 0 ≡ n → ⊥) → get_or (set out (get_or ns i 0) v) n d ≡ given (take (i + 1) ns) (take (i + 1) vs) other n
      there ne =
          let apart : n ≢ get_or ns i 0 = λ h. ne (sym h) in
          get_or-set_other out (get_or ns i 0) n v d apart ∙ each n d n_in ∙ sym (given_more n ∙ ap (λ b. cond b v (given (take i ns) (take i vs) other n)) (ne_eqb (get_or ns i 0) n ne))

-- ---- by place, with a default

pub flat_at : {X A : Type 0} (f : X → List A) (xs : List X) (i : ℕ) (d : X) → i < length xs → flat_map f (take (i + 1) xs) ≡ flat_map f (take i xs) ++ f (get_or xs i d)
flat_at f xs i d lt = ap (flat_map f) (take_more xs i d lt) ∙ flat_push f (take i xs) (get_or xs i d)

pub filter_at_yes : {X : Type 0} (p : X → Bool) (xs : List X) (i : ℕ) (d : X) → i < length xs → p (get_or xs i d) ≡ true → filter p (take (i + 1) xs) ≡ filter p (take i xs) ++ get_or xs i d ∷ []
filter_at_yes p xs i d lt e = ap (filter p) (take_more xs i d lt) ∙ filter_yes p (take i xs) (get_or xs i d) e

pub filter_at_no : {X : Type 0} (p : X → Bool) (xs : List X) (i : ℕ) (d : X) → i < length xs → p (get_or xs i d) ≡ false → filter p (take (i + 1) xs) ≡ filter p (take i xs)
filter_at_no p xs i d lt e = ap (filter p) (take_more xs i d lt) ∙ filter_no p (take i xs) (get_or xs i d) e

-- ---- what passes of a list, and what is made of it

module _ {X Y : Type 0} (f : X → Y) (p : X → Bool) (start : List Y) where
  abbrev pub picked : List X → List Y
  picked xs = start ++ map f (filter p xs)

  picked_yes : (xs : List X) (x : X) → p x ≡ true → picked (xs ++ x ∷ []) ≡ picked xs ++ f x ∷ []
  picked_yes xs x e =
      ap (λ zs. start ++ map f zs) (filter_yes p xs x e)
      ∙ ap (λ zs. start ++ zs) (map_push f (filter p xs) x)
      ∙ sym (append_assoc start (map f (filter p xs)) (f x ∷ []))

  picked_no : (xs : List X) (x : X) → p x ≡ false → picked (xs ++ x ∷ []) ≡ picked xs
  picked_no xs x e = ap (λ zs. start ++ map f zs) (filter_no p xs x e)

  module _ (at : ℕ → X) (n : ℕ) where
    abbrev to : ℕ → List X
    to m = map at (range_with_len 0 m)

    pub next_yes : p (at n) ≡ true → picked (to (n + 1)) ≡ picked (to n) ++ f (at n) ∷ []
    next_yes e = ap picked (map-range_with_len_more at 0 n n (omega arith)) ∙ picked_yes (to n) (at n) e

    pub next_no : p (at n) ≡ false → picked (to (n + 1)) ≡ picked (to n)
    next_no e = ap picked (map-range_with_len_more at 0 n n (omega arith)) ∙ picked_no (to n) (at n) e

  pub picked_more : (xs ys : List X) → picked (xs ++ ys) ≡ picked xs ++ map f (filter p ys)
  picked_more xs ys =
      ap (λ zs. start ++ map f zs) (filter-append p xs ys)
      ∙ ap (λ zs. start ++ zs) (map-append f (filter p xs) (filter p ys))
      ∙ sym (append_assoc start (map f (filter p xs)) (map f (filter p ys)))

pub at_most_one : (b : Bool) → cond b 1 0 ≤ 1
at_most_one true = omega arith
at_most_one false = omega arith
