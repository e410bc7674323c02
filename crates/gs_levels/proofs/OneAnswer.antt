-- The levels of a graph are one list, and so is the order of its nodes.
use Rattle.std.proofs.Common.{◌≡◌, ◌<◌, ◌≤◌, ◌+◌, ◌⊎◌, ◌==◌, ℕ, suc, zero, cond, List, [], ◌∷◌, length, slice_index, inl, inr, arith, ap, refl, sym, ◌∙◌, subst}
use Rattle.std.specs.List.{All, range_with_len, sum_by}
use Rattle.std.proofs.lemmas.Bool.{cases_eq, cases_lt, eq-eqb, ne_eqb}
use Rattle.std.proofs.lemmas.Grind.{same_number_lists}
use Rattle.std.proofs.lemmas.List.{get_or_past}
use Rattle.std.proofs.lemmas.List.Elements.{All-nil, All-cons, All-head, All-tail, All-weaker}
use Rattle.std.proofs.lemmas.List.Sorted.{sum_by-IsPermutation}
use Rattle.std.proofs.lemmas.List.Sums.{sum_by-cons}
use Rattle.gs_levels.specs.declared.edges.Edge.{Edge}
use Rattle.gs_levels.specs.Graph.{edge_at}
use Rattle.gs_levels.specs.Levels.{above, IsLeveled, ComesFirst, IsOrder}
use Rattle.gs_levels.proofs.LevelLaws.{above-ge}

-- where two lists agree on the nodes with an edge to n, what is above them is one number
above_same : (edges : List Edge) (level other : List ℕ) (n : ℕ)
    → ((i : ℕ) → i < length edges → (edge_at edges i).to ≡ n → slice_index level (edge_at edges i).from ≡ slice_index other (edge_at edges i).from)
    → above edges level n ≡ above edges other n
above_same [] level other n agree = refl
above_same (e ∷ edges) level other n agree = by_case (cases_eq e.to n) (above_same edges level other n (λ i li into. agree (suc i) (omega arith) into))
  where
    by_case : (e.to ≡ n) ⊎ (e.to ≡ n → ⊥) → above edges level n ≡ above edges other n → above (e ∷ edges) level n ≡ above (e ∷ edges) other n
    by_case (inl into) rest =
        let first : slice_index level e.from ≡ slice_index other e.from = agree 0 (omega arith) into in
        rw (eq-eqb e.to n into, first, rest) refl
    by_case (inr else) rest = rw (ne_eqb e.to n else) rest

module _ (nodes : ℕ) (edges : List Edge) (level other : List ℕ) (v : IsLeveled nodes edges level) (w : IsLeveled nodes edges other) where
  -- a number past the nodes has no level in either list
  past : (n : ℕ) → nodes ≤ n → slice_index level n ≡ slice_index other n
  past n out =
      let this : slice_index level n ≡ 0 = get_or_past level n 0 (omega (arith, v.each)) in
      let that : slice_index other n ≡ 0 = get_or_past other n 0 (omega (arith, w.each)) in
      this ∙ sym that

  -- the nodes below a level agree, by the levels below
  agree_below : (bound n : ℕ) → slice_index level n < bound → slice_index level n ≡ slice_index other n
  agree_below zero n low = absurd (omega arith)
  agree_below (suc bound) n low = by_place (cases_lt n nodes) (agree_below bound)
    where
      by_place : (n < nodes) ⊎ (nodes ≤ n) → ((m : ℕ) → slice_index level m < bound → slice_index level m ≡ slice_index other m) → slice_index level n ≡ slice_index other n
      by_place (inr out) below = past n out
      by_place (inl within) below =
          v.levels n within
          ∙ above_same edges level other n (λ i li into. below (edge_at edges i).from (omega (arith, v.levels n within, above-ge edges level n i li into)))
          ∙ sym (w.levels n within)

pub one_leveling : (nodes : ℕ) (edges : List Edge) (level other : List ℕ) → IsLeveled nodes edges level → IsLeveled nodes edges other → level ≡ other
one_leveling nodes edges level other v w =
    same_number_lists level other (v.each ∙ sym w.each) (λ n ln. agree_below nodes edges level other v w (slice_index level n + 1) n (omega arith))

-- Each number of the list comes before those after it.
abbrev pub Rising : List ℕ → List ℕ → Type 0
Rising level [] = Unit {0}
Rising level (x ∷ xs) = All (ComesFirst level x) xs × Rising level xs

pub first_trans : (level : List ℕ) (a b c : ℕ) → ComesFirst level a b → ComesFirst level b c → ComesFirst level a c
first_trans level a b c (inl ab) (inl bc) = inl (omega arith)
first_trans level a b c (inl ab) (inr (same, bc)) = inl (omega arith)
first_trans level a b c (inr (same, ab)) (inl bc) = inl (omega arith)
first_trans level a b c (inr (same, ab)) (inr (also, bc)) = inr (same ∙ also, omega arith)

first_one : (level : List ℕ) (a b : ℕ) → ComesFirst level a b → ComesFirst level b a → a ≡ b
first_one level a b (inl ab) (inl ba) = absurd (omega arith)
first_one level a b (inl ab) (inr (same, ba)) = absurd (omega arith)
first_one level a b (inr (same, ab)) (inl ba) = absurd (omega arith)
first_one level a b (inr (same, ab)) (inr (also, ba)) = omega arith

first_self : (level : List ℕ) (a : ℕ) → ComesFirst level a a
first_self level a = inr (refl, omega arith)

-- from neighbours to the whole list
rising_from : (level xs : List ℕ) → ((k : ℕ) → k + 1 < length xs → ComesFirst level (slice_index xs k) (slice_index xs (k + 1))) → Rising level xs
rising_from level [] h = tt
rising_from level (x ∷ []) h = (All-nil (ComesFirst level x), tt)
rising_from level (x ∷ y ∷ xs) h = join (rising_from level (y ∷ xs) tail)
  where
    tail : (k : ℕ) → k + 1 < length (y ∷ xs) → ComesFirst level (slice_index (y ∷ xs) k) (slice_index (y ∷ xs) (k + 1))
    tail k lk =
        let num : suc k + 1 ≡ suc (k + 1) = omega arith in
        let at_k : ComesFirst level (slice_index (y ∷ xs) k) (slice_index (x ∷ y ∷ xs) (suc k + 1)) = h (suc k) (omega arith) in
        subst (λ (j : ℕ). ComesFirst level (slice_index (y ∷ xs) k) (slice_index (x ∷ y ∷ xs) j)) num at_k

    join : Rising level (y ∷ xs) → Rising level (x ∷ y ∷ xs)
    join rest =
        let here : ComesFirst level x y = h 0 (omega arith) in
        (All-cons (ComesFirst level x) y xs here (All-weaker (ComesFirst level y) (ComesFirst level x) (λ z later. first_trans level x y z here later) xs rest.0), rest)

-- 1 for the number itself, and 0 for another
abbrev is_one : ℕ → ℕ → ℕ
is_one x y = cond (y == x) 1 0

-- what holds of each number of a list holds of one that it has
has_it : (P : ℕ → Type 0) (xs : List ℕ) (x : ℕ) → All P xs → 0 < sum_by (is_one x) xs → P x
has_it P [] x all some = absurd (omega arith)
has_it P (y ∷ xs) x all some = by_case (cases_eq y x) (has_it P xs x (All-tail P y xs all))
  where
    by_case : (y ≡ x) ⊎ (y ≡ x → ⊥) → (0 < sum_by (is_one x) xs → P x) → P x
    by_case (inl here) rest = subst P here (All-head P y xs all)
    by_case (inr else) rest =
        let none : is_one x y ≡ 0 = rw (ne_eqb y x else) refl in
        rest (omega (arith, sum_by-cons (is_one x) y xs))

counts_itself : (x : ℕ) (xs : List ℕ) → 0 < sum_by (is_one x) (x ∷ xs)
counts_itself x xs =
    let one : is_one x x ≡ 1 = rw (eq-eqb x x refl) refl in
    omega (arith, sum_by-cons (is_one x) x xs)

-- two rising lists with the same sums are one
same_rising : (level xs ys : List ℕ) → Rising level xs → Rising level ys → ((f : ℕ → ℕ) → sum_by f xs ≡ sum_by f ys) → xs ≡ ys
same_rising level [] [] r s sums = refl
same_rising level [] (y ∷ ys) r s sums = absurd (omega (arith, sums (is_one y), counts_itself y ys))
same_rising level (x ∷ xs) [] r s sums = absurd (omega (arith, sums (is_one x), counts_itself x xs))
same_rising level (x ∷ xs) (y ∷ ys) r s sums = join (same_rising level xs ys r.1 s.1)
  where
    x_first : ComesFirst level x y
    x_first = has_it (ComesFirst level x) (x ∷ xs) y (All-cons (ComesFirst level x) x xs (first_self level x) r.0) (omega (arith, sums (is_one y), counts_itself y ys))

    y_first : ComesFirst level y x
    y_first = has_it (ComesFirst level y) (y ∷ ys) x (All-cons (ComesFirst level y) y ys (first_self level y) s.0) (omega (arith, sums (is_one x), counts_itself x xs))

    one : x ≡ y
    one = first_one level x y x_first y_first

    join : (((f : ℕ → ℕ) → sum_by f xs ≡ sum_by f ys) → xs ≡ ys) → x ∷ xs ≡ y ∷ ys
    join rest =
        let tails : xs ≡ ys = rest (λ f. omega (arith, sums f, sum_by-cons f x xs, sum_by-cons f y ys, ap f one)) in
        λ i. one i ∷ tails i

pub one_order : (level order other : List ℕ) → IsOrder level order → IsOrder level other → order ≡ other
one_order level order other v w =
    same_rising level order other (rising_from level order v.rising) (rising_from level other w.rising)
    (λ f. sum_by-IsPermutation f (range_with_len 0 (length level)) order v.once ∙ sym (sum_by-IsPermutation f (range_with_len 0 (length level)) other w.once))
