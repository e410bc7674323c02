-- Each list of levels has an order of its nodes.
use Rattle.std.proofs.Common.{◌≡◌, ◌<◌, ◌≤◌, ◌+◌, ◌⊎◌, ℕ, suc, zero, List, [], ◌∷◌, length, slice_index, inl, inr, arith, sym, subst}
use Rattle.std.specs.Prelude.{IsPermutation}
use Rattle.std.specs.List.{All, range_with_len}
use Rattle.std.proofs.lemmas.Bool.{cases_eq, cases_lt}
use Rattle.std.proofs.lemmas.List.Elements.{All-nil, All-cons, All-head, All-weaker}
use Rattle.std.proofs.lemmas.List.Sorted.{All-permutation, IsPermutation-refl, IsPermutation-cons, IsPermutation-middle, IsPermutation-trans}
use Rattle.gs_levels.specs.Levels.{ComesFirst, IsOrder}
use Rattle.gs_levels.proofs.OneAnswer.{Rising, first_trans}

-- of two nodes one comes first
either_first : (level : List ℕ) (a b : ℕ) → ComesFirst level a b ⊎ ComesFirst level b a
either_first level a b = by_level (cases_lt (slice_index level a) (slice_index level b)) (cases_eq (slice_index level a) (slice_index level b)) (cases_lt a b)
  where
    by_level : (slice_index level a < slice_index level b) ⊎ (slice_index level b ≤ slice_index level a)
        → (slice_index level a ≡ slice_index level b) ⊎ (slice_index level a ≡ slice_index level b → ⊥)
        → (a < b) ⊎ (b ≤ a) → ComesFirst level a b ⊎ ComesFirst level b a
    by_level (inl lower) any by_number = inl (inl lower)
    by_level (inr higher) (inl same) (inl before) = inl (inr (same, omega arith))
    by_level (inr higher) (inl same) (inr after) = inr (inr (sym same, after))
    by_level (inr higher) (inr ne) by_number = inr (inl (omega arith))

-- the numbers of a list in order
record IsSortOf (level xs ys : List ℕ) : Type 0 where
  each : IsPermutation xs ys
  rising : Rising level ys

abbrev HasSort : List ℕ → List ℕ → Type 0
HasSort level xs = (ys : List ℕ) × IsSortOf level xs ys

-- one more number, put where it belongs
put_in : (level : List ℕ) (x : ℕ) (ys : List ℕ) → Rising level ys → HasSort level (x ∷ ys)
put_in level x [] r = (x ∷ [], record { each = IsPermutation-refl (x ∷ []); rising = (All-nil (ComesFirst level x), tt) })
put_in level x (y ∷ ys) r = by_order (either_first level x y) (put_in level x ys r.1)
  where
    later : ComesFirst level x y → All (ComesFirst level x) ys
    later here = All-weaker (ComesFirst level y) (ComesFirst level x) (λ z after. first_trans level x y z here after) ys r.0

    by_order : ComesFirst level x y ⊎ ComesFirst level y x → HasSort level (x ∷ ys) → HasSort level (x ∷ y ∷ ys)
    by_order (inl here) rest =
        (x ∷ y ∷ ys, record { each = IsPermutation-refl (x ∷ y ∷ ys); rising = (All-cons (ComesFirst level x) y ys here (later here), r) })
    by_order (inr past) (zs, s) =
        let turned : IsPermutation (x ∷ y ∷ ys) (y ∷ x ∷ ys) = IsPermutation-middle (x ∷ []) y ys in
        let onward : IsPermutation (y ∷ x ∷ ys) (y ∷ zs) = IsPermutation-cons y (x ∷ ys) zs s.each in
        let above : All (ComesFirst level y) zs = All-permutation (ComesFirst level y) (x ∷ ys) zs s.each (All-cons (ComesFirst level y) x ys past r.0) in
        (y ∷ zs, record { each = IsPermutation-trans (x ∷ y ∷ ys) (y ∷ x ∷ ys) (y ∷ zs) turned onward; rising = (above, s.rising) })

has_sort : (level xs : List ℕ) → HasSort level xs
has_sort level [] = ([], record { each = IsPermutation-refl []; rising = tt })
has_sort level (x ∷ xs) = join (has_sort level xs)
  where
    join : HasSort level xs → HasSort level (x ∷ xs)
    join (ys, s) = onward (put_in level x ys s.rising)
      where
        onward : HasSort level (x ∷ ys) → HasSort level (x ∷ xs)
        onward (zs, t) = (zs, record { each = IsPermutation-trans (x ∷ xs) (x ∷ ys) zs (IsPermutation-cons x xs ys s.each) t.each; rising = t.rising })

-- neighbours of a rising list
neighbours : (level xs : List ℕ) → Rising level xs → (k : ℕ) → k + 1 < length xs → ComesFirst level (slice_index xs k) (slice_index xs (k + 1))
neighbours level [] r k lk = absurd (omega arith)
neighbours level (x ∷ []) r k lk = absurd (omega arith)
neighbours level (x ∷ y ∷ xs) r zero lk = All-head (ComesFirst level x) y xs r.0
neighbours level (x ∷ y ∷ xs) r (suc k) lk =
    let num : suc (k + 1) ≡ suc k + 1 = omega arith in
    let rest : ComesFirst level (slice_index (y ∷ xs) k) (slice_index (y ∷ xs) (k + 1)) = neighbours level (y ∷ xs) r.1 k (omega arith) in
    subst (λ (j : ℕ). ComesFirst level (slice_index (y ∷ xs) k) (slice_index (x ∷ y ∷ xs) j)) num rest

-- each list of levels has an order
pub has_order : (level : List ℕ) → (order : List ℕ) × IsOrder level order
has_order level = of_sort (has_sort level (range_with_len 0 (length level)))
  where
    of_sort : HasSort level (range_with_len 0 (length level)) → (order : List ℕ) × IsOrder level order
    of_sort (ys, s) = (ys, record { once = s.each; rising = neighbours level ys s.rising })
