-- Laws of lists on which the facts of a linked design rest.

use Rattle.std.proofs.Common.{◌≡◌, ◌∙◌, ap, sym, subst, refl, ℕ, zero, suc, ◌+◌, ◌<◌, ◌≤◌, ◌==◌, nat_lt, List, [], ◌∷◌, ◌++◌, All, length, get_or, take, filter, slice_index, Bool, true, false, cond, not, ◌||◌, Option, None, Some, if◌then◌else◌, arith, inl, inr}
use Rattle.std.specs.List.{AllByRecursion, flat_map, list_any, position_or_len, range_with_len}
use Rattle.std.proofs.lemmas.Bool.{cases_lt, eq-eqb, eqb-true}
use Rattle.std.proofs.lemmas.Bool.Decides.{nat_tests}
use Rattle.std.proofs.lemmas.List.{append-nil, get_or_append_left, get_or_push, length-append, length_push, map-id}
use Rattle.std.proofs.lemmas.List.Concat.{get_or-flat_map}
use Rattle.std.proofs.lemmas.List.Elements.{All-append, All-filter, filter_passes}
use Rattle.std.proofs.lemmas.List.Folds.{length-flat_map-take}
use Rattle.std.proofs.lemmas.List.FromFn.{filter_of_map_range_with_len_more, get_or-range_with_len, length-range_with_len}
use Rattle.gs_list.specs.Keys.{count_of}
use Rattle.gs_survey.specs.First.{first_some, or_else}
use Rattle.gs_survey.specs.Numbers.{given, is_one_of}

-- ---- tests

pub or_first : {F : Type 0} (a b : Option F) → or_else a b ≡ None → a ≡ None
or_first None b e = refl
or_first (Some f) b e = absurd cc

pub or_later : {F : Type 0} (a b : Option F) → or_else a b ≡ None → b ≡ None
or_later None b e = e
or_later (Some f) b e = absurd cc

-- from no refusal to one place
pub none_at : {A F : Type 0} (f : A → Option F) (xs : List A) (i : ℕ) (d : A) → first_some f xs ≡ None → i < length xs → f (get_or xs i d) ≡ None
none_at f [] i d e lt = absurd (omega arith)
none_at f (x ∷ xs) zero d e lt = or_first (f x) (first_some f xs) e
none_at f (x ∷ xs) (suc i) d e lt = none_at f xs i d (or_later (f x) (first_some f xs) e) (omega arith)

pub unless : {F : Type 0} (b : Bool) (f : F) → (if b then None else Some f) ≡ None → b ≡ true
unless true f e = refl
unless false f e = absurd cc

pub where_not : {F : Type 0} (b : Bool) (f : F) → (if b then Some f else None) ≡ None → b ≡ false
where_not true f e = absurd cc
where_not false f e = refl

pub lt_is : (a b : ℕ) → nat_lt a b ≡ true → a < b
lt_is a b e = grind (arith, nat_tests)

pub not_lt : (a b : ℕ) → nat_lt a b ≡ false → b ≤ a
not_lt a b e = grind (arith, nat_tests)

pub is_lt : (a b : ℕ) → a < b → nat_lt a b ≡ true
is_lt a b lt = grind (arith, nat_tests)

pub isnt_lt : (a b : ℕ) → b ≤ a → nat_lt a b ≡ false
isnt_lt a b le = grind (arith, nat_tests)

-- ---- all elements

pub each_of : {X : Type 0} (P : X → Type 0) (xs : List X) → AllByRecursion P xs → All P xs
each_of P [] h k d lt = absurd (omega arith)
each_of P (x ∷ xs) h zero d lt = h.0
each_of P (x ∷ xs) h (suc k) d lt = each_of P xs h.1 k d (omega arith)

pub all_flat : {X A : Type 0} (P : A → Type 0) (f : X → List A) (xs : List X) → All (λ x. All P (f x)) xs → All P (flat_map f xs)
all_flat P f [] h = λ k d lt. absurd (omega arith)
all_flat P f (x ∷ xs) h = All-append P (f x) (flat_map f xs) (h 0 x (omega arith)) (all_flat P f xs (λ k d lt. h (suc k) d (omega arith)))

-- what holds of all pieces holds of one
pub all_piece : {X A : Type 0} (P : A → Type 0) (f : X → List A) (xs : List X) (i : ℕ) (e : X) → i < length xs → All P (flat_map f xs) → All P (f (get_or xs i e))
all_piece P f xs i e lt h j d jt =
    subst P (get_or-flat_map f xs i j e d lt jt) (h (length (flat_map f (take i xs)) + j) d (omega (arith, length-flat_map-take f xs i e lt)))

pub all_left : {X : Type 0} (P : X → Type 0) (xs ys : List X) → All P (xs ++ ys) → All P xs
all_left P xs ys h k d lt = subst P (get_or_append_left xs ys d k lt) (h k d (omega (arith, length-append xs ys)))

-- a part is no longer than the whole
pub filter_few : {X : Type 0} (p : X → Bool) (xs : List X) → length (filter p xs) ≤ length xs
filter_few p [] = omega arith
filter_few p (x ∷ xs) = by_test (p x) (filter_few p xs)
  where
    by_test : (b : Bool) → length (filter p xs) ≤ length xs → length (cond b (x ∷ filter p xs) (filter p xs)) ≤ length (x ∷ xs)
    by_test true h = omega (arith, h)
    by_test false h = omega (arith, h)

pub numbers_in : (n : ℕ) → All (λ c. c < n) (range_with_len 0 n)
numbers_in n k d lt =
    let k_in : k < n = omega (arith, length-range_with_len 0 n) in
    rw (get_or-range_with_len 0 n k d k_in) (omega arith)

-- ---- the place of the first that passes

pub position_in : {X : Type 0} (p : X → Bool) (xs : List X) → list_any p xs ≡ true → position_or_len p xs < length xs
position_in p [] h = let never : false ≡ true = h in absurd cc
position_in p (x ∷ xs) h = by_test (p x) h (position_in p xs)
  where
    by_test : (b : Bool) → (b || list_any p xs) ≡ true → (list_any p xs ≡ true → position_or_len p xs < length xs) → cond (not b) (1 + position_or_len p xs) 0 < length (x ∷ xs)
    by_test true g rest = omega arith
    by_test false g rest = omega (arith, rest g)

-- ---- counts

pub count-append : (xs ys : List ℕ) (n : ℕ) → count_of (xs ++ ys) n ≡ count_of xs n + count_of ys n
count-append [] ys n = omega arith
count-append (x ∷ xs) ys n = omega (arith, count-append xs ys n)

count_same : (x n : ℕ) (xs : List ℕ) (b : Bool) → (x == n) ≡ b → count_of (x ∷ xs) n ≡ (if b then 1 else 0) + count_of xs n
count_same x n xs b e = ap (λ t. (if t then 1 else 0) + count_of xs n) e

pub count_head : (x n : ℕ) (xs : List ℕ) → x ≡ n → count_of (x ∷ xs) n ≡ 1 + count_of xs n
count_head x n xs e = count_same x n xs true (eq-eqb x n e)

pub count_other : (x n : ℕ) (xs : List ℕ) → (x == n) ≡ false → count_of (x ∷ xs) n ≡ count_of xs n
count_other x n xs e = omega (arith, count_same x n xs false e)

pub count_at : (xs : List ℕ) (i n : ℕ) → i < length xs → slice_index xs i ≡ n → 1 ≤ count_of xs n
count_at [] i n lt e = absurd (omega arith)
count_at (x ∷ xs) zero n lt e = omega (arith, count_head x n xs e)
count_at (x ∷ xs) (suc i) n lt e = omega (arith, count_at xs i n (omega arith) e)

-- a place where the number is
pub count_from : (xs : List ℕ) (n : ℕ) → 1 ≤ count_of xs n → (i : ℕ) × (i < length xs) × (slice_index xs i ≡ n)
count_from [] n h = absurd (omega arith)
count_from (x ∷ xs) n h = by_test (x == n) refl (λ g. count_from xs n g)
  where
    further : (i : ℕ) × (i < length xs) × (slice_index xs i ≡ n) → (i : ℕ) × (i < length (x ∷ xs)) × (slice_index (x ∷ xs) i ≡ n)
    further r =
        let lt : r.0 < length xs = r.1 in
        let more : suc r.0 < length (x ∷ xs) = omega arith in
        (suc r.0, more, r.2)

    by_test : (b : Bool) → (x == n) ≡ b → (1 ≤ count_of xs n → (i : ℕ) × (i < length xs) × (slice_index xs i ≡ n)) → (i : ℕ) × (i < length (x ∷ xs)) × (slice_index (x ∷ xs) i ≡ n)
    by_test true e rest =
        let some : 0 < length (x ∷ xs) = omega arith in
        (0, some, eqb-true x n e)
    by_test false e rest = further (rest (omega (arith, count_other x n xs e)))

-- a piece's elements count in the whole
pub count_flat : {X : Type 0} (f : X → List ℕ) (xs : List X) (i j : ℕ) (e : X) (n : ℕ) → i < length xs → j < length (f (get_or xs i e)) → slice_index (f (get_or xs i e)) j ≡ n → 1 ≤ count_of (flat_map f xs) n
count_flat f xs i j e n lt jt is =
    count_at (flat_map f xs) (length (flat_map f (take i xs)) + j) n (omega (arith, length-flat_map-take f xs i e lt)) (get_or-flat_map f xs i j e 0 lt jt ∙ is)

pub one_of : (xs : List ℕ) (n : ℕ) → is_one_of xs n ≡ true → 1 ≤ count_of xs n
one_of xs n e = omega (arith, lt_is 0 (count_of xs n) e)

pub is_one : (xs : List ℕ) (n : ℕ) → 1 ≤ count_of xs n → is_one_of xs n ≡ true
is_one xs n h = is_lt 0 (count_of xs n) (omega arith)

pub isnt_one : (xs : List ℕ) (n : ℕ) → is_one_of xs n ≡ false → count_of xs n ≡ 0
isnt_one xs n e = omega (arith, not_lt 0 (count_of xs n) e)

pub none_one : (xs : List ℕ) (n : ℕ) → count_of xs n ≡ 0 → is_one_of xs n ≡ false
none_one xs n e = isnt_lt 0 (count_of xs n) (omega arith)

-- ---- values given

pub given_keeps : {V : Type 0} (P : V → Type 0) (ns : List ℕ) (vs : List V) (o : V) (n : ℕ) → P o → All P vs → P (given ns vs o n)
given_keeps P [] vs o n p all = p
given_keeps P (m ∷ ns) [] o n p all = p
given_keeps P (m ∷ ns) (v ∷ vs) o n p all = given_keeps P ns vs (if m == n then v else o) n (choose (m == n)) (λ k d lt. all (suc k) d (omega arith))
  where
    choose : (b : Bool) → P (if b then v else o)
    choose true = all 0 v (omega arith)
    choose false = p

pub given_none : {V : Type 0} (ns : List ℕ) (vs : List V) (o : V) (n : ℕ) → count_of ns n ≡ 0 → given ns vs o n ≡ o
given_none [] vs o n e = refl
given_none (m ∷ ns) [] o n e = refl
given_none (m ∷ ns) (v ∷ vs) o n e = by_test (m == n) refl (λ g. given_none ns vs o n g)
  where
    by_test : (b : Bool) → (m == n) ≡ b → (count_of ns n ≡ 0 → given ns vs o n ≡ o) → given ns vs (if m == n then v else o) n ≡ o
    by_test true t rest = absurd (omega (arith, count_same m n ns true t, e))
    by_test false t rest = ap (λ b. given ns vs (if b then v else o) n) t ∙ rest (omega (arith, count_same m n ns false t, e))

-- the value that is given once
pub given_at : {V : Type 0} (ns : List ℕ) (vs : List V) (o : V) (n i : ℕ) (d : V) → length ns ≡ length vs → i < length ns → slice_index ns i ≡ n → count_of ns n ≤ 1 → given ns vs o n ≡ get_or vs i d
given_at [] vs o n i d many lt is once = absurd (omega arith)
given_at (m ∷ ns) [] o n i d many lt is once = absurd (omega arith)
given_at (m ∷ ns) (v ∷ vs) o n zero d many lt is once =
    ap (λ b. given ns vs (if b then v else o) n) (eq-eqb m n is)
    ∙ given_none ns vs v n (omega (arith, count_head m n ns is, once))
given_at (m ∷ ns) (v ∷ vs) o n (suc i) d many lt is once =
    given_at ns vs (if m == n then v else o) n i d (omega arith) (omega arith) is (omega (arith, once))

-- ---- numbers of what is kept

module _ (p : ℕ → Bool) where
  abbrev pub kept_to : ℕ → List ℕ
  kept_to n = filter p (range_with_len 0 n)

  abbrev pub number : ℕ → ℕ
  number n = length (kept_to n)

  kept_more : (n : ℕ) (b : Bool) → p n ≡ b → kept_to (suc n) ≡ kept_to n ++ cond b (n ∷ []) []
  kept_more n b e =
      let one : suc n ≡ n + 1 = omega arith in
      ap kept_to one
      ∙ ap (filter p) (sym (map-id (range_with_len 0 (n + 1))))
      ∙ filter_of_map_range_with_len_more p (λ x. x) 0 n n (omega arith)
      ∙ ap (λ xs. filter p xs ++ cond (p n) (n ∷ []) []) (map-id (range_with_len 0 n))
      ∙ ap (λ t. kept_to n ++ cond t (n ∷ []) []) e

  number_kept : (n : ℕ) → p n ≡ true → number (suc n) ≡ number n + 1
  number_kept n e = ap length (kept_more n true e) ∙ length_push (kept_to n) n

  number_dropped : (n : ℕ) → p n ≡ false → number (suc n) ≡ number n
  number_dropped n e = ap length (kept_more n false e ∙ append-nil (kept_to n))

  number_step : (n : ℕ) (b : Bool) → p n ≡ b → number n ≤ number (suc n)
  number_step n true e = omega (arith, number_kept n e)
  number_step n false e = omega (arith, number_dropped n e)

  pub number_mono : (a b : ℕ) → a ≤ b → number a ≤ number b
  number_mono a zero h =
      let none : a ≡ 0 = omega arith in
      omega (arith, ap number none)
  number_mono a (suc b) h = elim (cases_lt b a) [
    | inl low ↦
        let same : a ≡ suc b = omega arith in
        omega (arith, ap number same)
    | inr high ↦ omega (arith, number_mono a b high, number_step b (p b) refl)
  ]

  pub number_lt : (a b : ℕ) → p a ≡ true → a < b → number a < number b
  number_lt a b e lt = omega (arith, number_kept a e, number_mono (suc a) b (omega arith))

  kept_old : (n j d : ℕ) → j < number n → get_or (kept_to (suc n)) j d ≡ get_or (kept_to n) j d
  kept_old n j d lt = ap (λ xs. get_or xs j d) (kept_more n (p n) refl) ∙ get_or_append_left (kept_to n) (cond (p n) (n ∷ []) []) d j lt

  kept_new : (n j d : ℕ) → p n ≡ true → number n ≡ j → get_or (kept_to (suc n)) j d ≡ n
  kept_new n j d e is = ap (λ xs. get_or xs j d) (kept_more n true e) ∙ get_or_push (kept_to n) n d j is

  -- what is kept stands at its new number
  pub kept_at : (n count d : ℕ) → p n ≡ true → n < count → get_or (kept_to count) (number n) d ≡ n
  kept_at n zero d e lt = absurd (omega arith)
  kept_at n (suc count) d e lt = elim (cases_lt n count) [
    | inl low ↦ kept_old count (number n) d (number_lt n count e low) ∙ kept_at n count d e low
    | inr high ↦
        let same : count ≡ n = omega arith in
        kept_new count (number n) d (ap p same ∙ e) (ap number same) ∙ same
  ]

  -- and its new number is its place
  pub kept_number : (count j d : ℕ) → j < number count → number (get_or (kept_to count) j d) ≡ j
  kept_number zero j d lt = absurd (omega arith)
  kept_number (suc count) j d lt = elim (cases_lt j (number count)) [
    | inl low ↦ ap number (kept_old count j d low) ∙ kept_number count j d low
    | inr high ↦ by_test (p count) refl high
  ]
    where
      by_test : (b : Bool) → p count ≡ b → number count ≤ j → number (get_or (kept_to (suc count)) j d) ≡ j
      by_test true e high =
          let here : number count ≡ j = omega (arith, number_kept count e) in
          ap number (kept_new count j d e here) ∙ here
      by_test false e high = absurd (omega (arith, number_dropped count e))

  pub kept_below : (count j d : ℕ) → j < number count → get_or (kept_to count) j d < count
  kept_below count j d lt = All-filter p (λ x. x < count) (range_with_len 0 count) (numbers_in count) j d lt

  pub kept_passes : (count j d : ℕ) → j < number count → p (get_or (kept_to count) j d) ≡ true
  kept_passes count j d lt = filter_passes p (range_with_len 0 count) j d lt

  pub number_few : (count : ℕ) → number count ≤ count
  number_few zero = omega arith
  number_few (suc count) = by_test (p count) refl (number_few count)
    where
      by_test : (b : Bool) → p count ≡ b → number count ≤ count → number (suc count) ≤ suc count
      by_test true e h = omega (arith, number_kept count e)
      by_test false e h = omega (arith, number_dropped count e)

  -- a part that is kept among those keeps the order of the new numbers
  pub kept_rises : (a b : ℕ) → p a ≡ true → p b ≡ true → a < b → number a < number b
  kept_rises a b e f lt = number_lt a b e lt
