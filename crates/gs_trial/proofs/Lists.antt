-- Facts on lists: on all elements, on the first that passes a test, on rising lists and on sums.

use Rattle.std.proofs.Common.{◌≡◌, ℕ, zero, suc, ◌+◌, ◌<◌, ◌≤◌, Bool, true, false, All, List, [], ◌∷◌, ◌++◌, filter, map, get_or, sum_by, None, Some, cond, refl, sym, ◌∙◌, ap, subst, arith, zero-add}
use Rattle.std.specs.Prelude.{if◌then◌else◌}
use Rattle.std.specs.List.{find, range_with_len}
use Rattle.std.proofs.lemmas.List.{map-id}
use Rattle.std.proofs.lemmas.List.Elements.{All-append, All-cons, All-filter, All-head, All-map, All-nil, All-tail, All-weaker, filter-append}
use Rattle.std.proofs.lemmas.List.FromFn.{get_or-range_with_len, length-range_with_len, map-range_with_len_more}
use Rattle.std.proofs.lemmas.List.Sums.{sum_by-cons, sum_by_push}

pub all_left : {X : Type 0} (P : X → Type 0) (xs ys : List X) → All P (xs ++ ys) → All P xs
all_left P [] ys h = All-nil P
all_left P (x ∷ xs) ys h = All-cons P x xs (All-head P x (xs ++ ys) h) (all_left P xs ys (All-tail P x (xs ++ ys) h))

pub all_right : {X : Type 0} (P : X → Type 0) (xs ys : List X) → All P (xs ++ ys) → All P ys
all_right P [] ys h = h
all_right P (x ∷ xs) ys h = all_right P xs ys (All-tail P x (xs ++ ys) h)

-- of what a map was made of
pub all_of_map : {X Y : Type 0} (P : X → Type 0) (f : Y → X) (ys : List Y) → All P (map f ys) → All (λ y. P (f y)) ys
all_of_map P f [] h = All-nil (λ y. P (f y))
all_of_map P f (y ∷ ys) h = All-cons (λ z. P (f z)) y ys (All-head P (f y) (map f ys) h) (all_of_map P f ys (All-tail P (f y) (map f ys) h))

-- of each element that a filter lets through
pub all_of_filter : {X : Type 0} (P : X → Type 0) (p : X → Bool) (xs : List X) → All P (filter p xs) → All (λ x. p x ≡ true → P x) xs
all_of_filter P p [] h = All-nil (λ x. p x ≡ true → P x)
all_of_filter P p (x ∷ xs) h = by_test (p x) refl h (all_of_filter P p xs)
  where
    by_test : (b : Bool) → p x ≡ b → All P (cond b (x ∷ filter p xs) (filter p xs)) → (All P (filter p xs) → All (λ y. p y ≡ true → P y) xs) → All (λ y. p y ≡ true → P y) (x ∷ xs)
    by_test true is g rest = All-cons (λ y. p y ≡ true → P y) x xs (λ _. All-head P x (filter p xs) g) (rest (All-tail P x (filter p xs) g))
    by_test false is g rest = All-cons (λ y. p y ≡ true → P y) x xs (λ passes. absurd cc) (rest g)

pub all_in_filter : {X : Type 0} (P : X → Type 0) (p : X → Bool) (xs : List X) → All (λ x. p x ≡ true → P x) xs → All P (filter p xs)
all_in_filter P p [] h = All-nil P
all_in_filter P p (x ∷ xs) h = by_test (p x) refl (all_in_filter P p xs (All-tail (λ y. p y ≡ true → P y) x xs h))
  where
    by_test : (b : Bool) → p x ≡ b → All P (filter p xs) → All P (cond b (x ∷ filter p xs) (filter p xs))
    by_test true is rest = All-cons P x (filter p xs) (All-head (λ y. p y ≡ true → P y) x xs h is) rest
    by_test false is rest = rest

at_range : (n k d : ℕ) → k < n → get_or (range_with_len 0 n) k d ≡ k
at_range n k d lt = omega (arith, get_or-range_with_len 0 n k d lt)

-- of the numbers below a count
pub all_below : (P : ℕ → Type 0) (n : ℕ) → ((k : ℕ) → k < n → P k) → All P (range_with_len 0 n)
all_below P n h k d lt =
    let k_in : k < n = omega (arith, lt, length-range_with_len 0 n) in
    subst P (sym (at_range n k d k_in)) (h k k_in)

pub below_all : (P : ℕ → Type 0) (n : ℕ) → All P (range_with_len 0 n) → (k : ℕ) → k < n → P k
below_all P n h k lt = subst P (at_range n k 0 lt) (h k 0 (omega (arith, lt, length-range_with_len 0 n)))

pub range_more : (n : ℕ) → range_with_len 0 (n + 1) ≡ range_with_len 0 n ++ n ∷ []
range_more n =
    sym (map-id (range_with_len 0 (n + 1))) ∙ map-range_with_len_more (λ (k : ℕ). k) 0 n n (omega arith) ∙ ap (λ ks. ks ++ n ∷ []) (map-id (range_with_len 0 n))

-- ---- the first that passes a test

pub find_none : {X : Type 0} (p : X → Bool) (xs : List X) → find p xs ≡ None → All (λ x. p x ≡ false) xs
find_none p [] e = All-nil (λ x. p x ≡ false)
find_none p (x ∷ xs) e = by_test (p x) refl e (find_none p xs)
  where
    by_test : (b : Bool) → p x ≡ b → cond b (Some x) (find p xs) ≡ None → (find p xs ≡ None → All (λ y. p y ≡ false) xs) → All (λ y. p y ≡ false) (x ∷ xs)
    by_test true is found rest = absurd cc
    by_test false is found rest = All-cons (λ y. p y ≡ false) x xs is (rest found)

some_same : {X : Type 0} (x y : X) → Some x ≡ Some y → x ≡ y
some_same x y e = cc

pub find_passes : {X : Type 0} (p : X → Bool) (xs : List X) (b : X) → find p xs ≡ Some b → p b ≡ true
find_passes p [] b e = absurd cc
find_passes p (x ∷ xs) b e = by_test (p x) refl e (find_passes p xs b)
  where
    by_test : (t : Bool) → p x ≡ t → cond t (Some x) (find p xs) ≡ Some b → (find p xs ≡ Some b → p b ≡ true) → p b ≡ true
    by_test true is found rest = subst (λ y. p y ≡ true) (some_same x b found) is
    by_test false is found rest = rest found

pub find_in : {X : Type 0} (P : X → Type 0) (p : X → Bool) (xs : List X) (b : X) → All P xs → find p xs ≡ Some b → P b
find_in P p [] b all e = absurd cc
find_in P p (x ∷ xs) b all e = by_test (p x) refl e (find_in P p xs b (All-tail P x xs all))
  where
    by_test : (t : Bool) → p x ≡ t → cond t (Some x) (find p xs) ≡ Some b → (find p xs ≡ Some b → P b) → P b
    by_test true is found rest = subst P (some_same x b found) (All-head P x xs all)
    by_test false is found rest = rest found

pub find_same : {X : Type 0} (p q : X → Bool) (xs : List X) → All (λ x. p x ≡ q x) xs → find p xs ≡ find q xs
find_same p q [] all = refl
find_same p q (x ∷ xs) all =
    ap (λ b. cond b (Some x) (find p xs)) (All-head (λ y. p y ≡ q y) x xs all)
    ∙ ap (λ o. cond (q x) (Some x) o) (find_same p q xs (All-tail (λ y. p y ≡ q y) x xs all))

-- ---- lists whose ranks rise

abbrev pub Rising : {X : Type 0} → (rank : X → ℕ) → List X → Type 0
Rising rank [] = Unit {0}
Rising rank (x ∷ xs) = All (λ y. rank x < rank y) xs × Rising rank xs

pub rising_map : {X Y : Type 0} (rank : X → ℕ) (f : Y → X) (ys : List Y) → Rising (λ y. rank (f y)) ys → Rising rank (map f ys)
rising_map rank f [] h = tt
rising_map rank f (y ∷ ys) h = (All-map (λ x. rank (f y) < rank x) f ys h.0, rising_map rank f ys h.1)

pub rising_filter : {X : Type 0} (rank : X → ℕ) (p : X → Bool) (xs : List X) → Rising rank xs → Rising rank (filter p xs)
rising_filter rank p [] h = tt
rising_filter rank p (x ∷ xs) h = by_test (p x) (rising_filter rank p xs h.1)
  where
    by_test : (b : Bool) → Rising rank (filter p xs) → Rising rank (cond b (x ∷ filter p xs) (filter p xs))
    by_test true rest = (All-filter p (λ y. rank x < rank y) xs h.0, rest)
    by_test false rest = rest

above : (a n : ℕ) → All (λ k. a ≤ k) (range_with_len a n)
above a n k d lt = let k_in : k < n = omega (arith, lt, length-range_with_len a n) in omega (arith, get_or-range_with_len a n k d k_in)

pub rising_range : (rank : ℕ → ℕ) → ((i j : ℕ) → i < j → rank i < rank j) → (a n : ℕ) → Rising rank (range_with_len a n)
rising_range rank more a zero = tt
rising_range rank more a (suc n) = (
  All-weaker (λ k. a + 1 ≤ k) (λ k. rank a < rank k) (λ k le. more a k (omega (arith, le))) (range_with_len (a + 1) n) (above (a + 1) n),
  rising_range rank more (a + 1) n,
)

-- two lists, with the ranks of the first below a number and those of the second from it on
pub rising_join : {X : Type 0} (rank : X → ℕ) (b : ℕ) (xs ys : List X) → All (λ x. rank x < b) xs → All (λ y. b ≤ rank y) ys → Rising rank xs → Rising rank ys → Rising rank (xs ++ ys)
rising_join rank b [] ys low high hx hy = hy
rising_join rank b (x ∷ xs) ys low high hx hy = (
  All-append (λ y. rank x < rank y) xs ys hx.0 (All-weaker (λ y. b ≤ rank y) (λ y. rank x < rank y) (λ y le. let lt = All-head (λ z. rank z < b) x xs low in omega (arith, lt, le)) ys high),
  rising_join rank b xs ys (All-tail (λ z. rank z < b) x xs low) high hx.1 hy,
)

-- the first that passes has the least rank of those that pass
pub find_least : {X : Type 0} (rank : X → ℕ) (p : X → Bool) (xs : List X) (b : X) → Rising rank xs → find p xs ≡ Some b → All (λ x. p x ≡ true → rank b ≤ rank x) xs
find_least rank p [] b rising e = All-nil (λ x. p x ≡ true → rank b ≤ rank x)
find_least rank p (x ∷ xs) b rising e = by_test (p x) refl e (find_least rank p xs b rising.1)
  where
    by_test : (t : Bool) → p x ≡ t → cond t (Some x) (find p xs) ≡ Some b → (find p xs ≡ Some b → All (λ y. p y ≡ true → rank b ≤ rank y) xs) → All (λ y. p y ≡ true → rank b ≤ rank y) (x ∷ xs)
    by_test true is found rest =
        subst (λ c. All (λ y. p y ≡ true → rank c ≤ rank y) (x ∷ xs)) (some_same x b found)
        (All-cons (λ y. p y ≡ true → rank x ≤ rank y) x xs (λ _. omega arith) (All-weaker (λ y. rank x < rank y) (λ y. p y ≡ true → rank x ≤ rank y) (λ y lt _. omega (arith, lt)) xs rising.0))
    by_test false is found rest = All-cons (λ y. p y ≡ true → rank b ≤ rank y) x xs (λ passes. absurd cc) (rest found)

-- ---- sums

pub sum_same : {X : Type 0} (f g : X → ℕ) (xs : List X) → All (λ x. f x ≡ g x) xs → sum_by f xs ≡ sum_by g xs
sum_same f g [] all = refl
sum_same f g (x ∷ xs) all =
    sum_by-cons f x xs ∙ ap (λ n. n + sum_by f xs) (All-head (λ y. f y ≡ g y) x xs all)
    ∙ ap (λ n. g x + n) (sum_same f g xs (All-tail (λ y. f y ≡ g y) x xs all)) ∙ sym (sum_by-cons g x xs)

-- of what passes a test
pub sum_if : {X : Type 0} (on : X → Bool) (f : X → ℕ) (xs : List X) → sum_by f (filter on xs) ≡ sum_by (λ x. if on x then f x else 0) xs
sum_if on f [] = refl
sum_if on f (x ∷ xs) = by_test (on x) refl (sum_if on f xs)
  where
    by_test : (b : Bool) → on x ≡ b → sum_by f (filter on xs) ≡ sum_by (λ y. if on y then f y else 0) xs
        → sum_by f (cond b (x ∷ filter on xs) (filter on xs)) ≡ sum_by (λ y. if on y then f y else 0) (x ∷ xs)
    by_test true is rest =
        sum_by-cons f x (filter on xs) ∙ ap (λ n. f x + n) rest ∙ ap (λ b. (if b then f x else 0) + sum_by (λ y. if on y then f y else 0) xs) (sym is)
        ∙ sym (sum_by-cons (λ y. if on y then f y else 0) x xs)
    by_test false is rest =
        rest ∙ sym (zero-add (sum_by (λ y. if on y then f y else 0) xs)) ∙ ap (λ b. (if b then f x else 0) + sum_by (λ y. if on y then f y else 0) xs) (sym is)
        ∙ sym (sum_by-cons (λ y. if on y then f y else 0) x xs)

pub sum_range_more : (f : ℕ → ℕ) (n : ℕ) → sum_by f (range_with_len 0 (n + 1)) ≡ sum_by f (range_with_len 0 n) + f n
sum_range_more f n = ap (λ ks. sum_by f ks) (range_more n) ∙ sum_by_push f (range_with_len 0 n) n

-- ---- what passes a test, one more number

pub filter_more : (p : ℕ → Bool) (n : ℕ) → filter p (range_with_len 0 (n + 1)) ≡ filter p (range_with_len 0 n) ++ cond (p n) (n ∷ []) []
filter_more p n = ap (filter p) (range_more n) ∙ filter-append p (range_with_len 0 n) (n ∷ [])
