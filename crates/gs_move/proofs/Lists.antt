-- Facts on all elements of lists that are made of others.

use Rattle.std.proofs.Common.{◌≡◌, ◌≢◌, ℕ, ◌+◌, ◌<◌, Bool, true, false, All, List, [], ◌∷◌, ◌++◌, filter, map, length, get_or, None, Some, cond, refl, sym, ◌∙◌, ap, subst, arith}
use Rattle.std.specs.List.{AllPairs, find, range_with_len}
use Rattle.std.proofs.lemmas.List.{get_or-map, length-map, map-id}
use Rattle.std.proofs.lemmas.List.Elements.{All-cons, All-head, All-nil, All-tail}
use Rattle.std.proofs.lemmas.List.FromFn.{get_or-range_with_len, length-range_with_len, map-range_with_len_more}

pub all_left : {X : Type 0} (P : X → Type 0) (xs ys : List X) → All P (xs ++ ys) → All P xs
all_left P [] ys h = All-nil P
all_left P (x ∷ xs) ys h = All-cons P x xs (All-head P x (xs ++ ys) h) (all_left P xs ys (All-tail P x (xs ++ ys) h))

pub all_right : {X : Type 0} (P : X → Type 0) (xs ys : List X) → All P (xs ++ ys) → All P ys
all_right P [] ys h = h
all_right P (x ∷ xs) ys h = all_right P xs ys (All-tail P x (xs ++ ys) h)

-- of what a map was made of
pub all_of_map : {X Y : Type 0} (P : X → Type 0) (f : Y → X) (ys : List Y) → All P (map f ys) → All (λ y. P (f y)) ys
all_of_map P f [] h = All-nil (λ y. P (f y))
all_of_map P f (y ∷ ys) h = All-cons (λ z. P (f z)) y ys (All-head P (f y) (map f ys) h) (all_of_map P f ys (All-tail P (f y) (map f ys) h))

-- of each element that a filter lets through
pub all_of_filter : {X : Type 0} (P : X → Type 0) (p : X → Bool) (xs : List X) → All P (filter p xs) → All (λ x. p x ≡ true → P x) xs
all_of_filter P p [] h = All-nil (λ x. p x ≡ true → P x)
all_of_filter P p (x ∷ xs) h = by_test (p x) refl h (all_of_filter P p xs)
  where
    by_test : (b : Bool) → p x ≡ b → All P (cond b (x ∷ filter p xs) (filter p xs)) → (All P (filter p xs) → All (λ y. p y ≡ true → P y) xs) → All (λ y. p y ≡ true → P y) (x ∷ xs)
    by_test true is g rest = All-cons (λ y. p y ≡ true → P y) x xs (λ _. All-head P x (filter p xs) g) (rest (All-tail P x (filter p xs) g))
    by_test false is g rest = All-cons (λ y. p y ≡ true → P y) x xs (λ passes. absurd cc) (rest g)

pub all_in_filter : {X : Type 0} (P : X → Type 0) (p : X → Bool) (xs : List X) → All (λ x. p x ≡ true → P x) xs → All P (filter p xs)
all_in_filter P p [] h = All-nil P
all_in_filter P p (x ∷ xs) h = by_test (p x) refl (all_in_filter P p xs (All-tail (λ y. p y ≡ true → P y) x xs h))
  where
    by_test : (b : Bool) → p x ≡ b → All P (filter p xs) → All P (cond b (x ∷ filter p xs) (filter p xs))
    by_test true is rest = All-cons P x (filter p xs) (All-head (λ y. p y ≡ true → P y) x xs h is) rest
    by_test false is rest = rest

at_range : (n k d : ℕ) → k < n → get_or (range_with_len 0 n) k d ≡ k
at_range n k d lt = omega (arith, get_or-range_with_len 0 n k d lt)

-- of the numbers below a count
pub all_below : (P : ℕ → Type 0) (n : ℕ) → ((k : ℕ) → k < n → P k) → All P (range_with_len 0 n)
all_below P n h k d lt =
    let k_in : k < n = omega (arith, lt, length-range_with_len 0 n) in
    subst P (sym (at_range n k d k_in)) (h k k_in)

pub below_all : (P : ℕ → Type 0) (n : ℕ) → All P (range_with_len 0 n) → (k : ℕ) → k < n → P k
below_all P n h k lt = subst P (at_range n k 0 lt) (h k 0 (omega (arith, lt, length-range_with_len 0 n)))

pub pairs_below : (n : ℕ) → AllPairs (λ x y. x ≢ y) (range_with_len 0 n)
pairs_below n i j d ij jt =
    let j_in : j < n = omega (arith, jt, length-range_with_len 0 n) in
    λ e. omega (arith, ij, sym (get_or-range_with_len 0 n i d (omega (arith, ij, j_in))) ∙ e ∙ get_or-range_with_len 0 n j d j_in)

pub pairs_map : {X Y : Type 0} (R : X → X → Type 0) (f : Y → X) (ys : List Y) → AllPairs (λ a b. R (f a) (f b)) ys → Y → AllPairs R (map f ys)
pairs_map R f ys h e i j d ij jt =
    let j_in : j < length ys = omega (arith, jt, length-map ys f) in
    let i_in : i < length ys = omega (arith, ij, j_in) in
    rw (get_or-map f ys i e d i_in, get_or-map f ys j e d j_in) (h i j e ij j_in)

-- one number more
pub range_more : (n : ℕ) → range_with_len 0 (n + 1) ≡ range_with_len 0 n ++ n ∷ []
range_more n =
    sym (map-id (range_with_len 0 (n + 1))) ∙ map-range_with_len_more (λ (k : ℕ). k) 0 n n (omega arith) ∙ ap (λ ks. ks ++ n ∷ []) (map-id (range_with_len 0 n))

-- a search that finds nothing
pub find_none : {X : Type 0} (p : X → Bool) (xs : List X) → find p xs ≡ None → All (λ x. p x ≡ false) xs
find_none p [] e = All-nil (λ x. p x ≡ false)
find_none p (x ∷ xs) e = by_test (p x) refl e (find_none p xs)
  where
    by_test : (b : Bool) → p x ≡ b → cond b (Some x) (find p xs) ≡ None → (find p xs ≡ None → All (λ y. p y ≡ false) xs) → All (λ y. p y ≡ false) (x ∷ xs)
    by_test true is found rest = absurd cc
    by_test false is found rest = All-cons (λ y. p y ≡ false) x xs is (rest found)

pub none_found : {X : Type 0} (p : X → Bool) (xs : List X) → All (λ x. p x ≡ false) xs → find p xs ≡ None
none_found p [] h = refl
none_found p (x ∷ xs) h = by_test (p x) refl (none_found p xs (All-tail (λ y. p y ≡ false) x xs h))
  where
    by_test : (b : Bool) → p x ≡ b → find p xs ≡ None → cond b (Some x) (find p xs) ≡ None
    by_test true is rest = absurd (let never = All-head (λ y. p y ≡ false) x xs h in cc)
    by_test false is rest = rest
