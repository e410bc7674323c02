-- The first place at which a test passes, as a search meets it.

use Rattle.std.proofs.Common.{◌≡◌, ℕ, zero, suc, ◌+◌, ◌<◌, ◌≤◌, Bool, true, false, cond, List, [], ◌∷◌, drop, length, slice_index_or, None, Some, refl, ◌∙◌, ap, arith}
use Rattle.std.specs.List.{position_from}
use Rattle.std.proofs.lemmas.List.{drop_all, drop_more}

module _ {X : Type 0} (t : X → Bool) where
  pub here_at : (xs : List X) (k : ℕ) (d : X) → k < length xs → t (slice_index_or xs k d) ≡ true → position_from t k (drop k xs) ≡ Some k
  here_at xs k d lt e = ap (position_from t k) (drop_more xs k d lt) ∙ ap (λ b. cond b (Some k) (position_from t (k + 1) (drop (k + 1) xs))) e

  pub there_at : (xs : List X) (k : ℕ) (d : X) → k < length xs → t (slice_index_or xs k d) ≡ false → position_from t k (drop k xs) ≡ position_from t (k + 1) (drop (k + 1) xs)
  there_at xs k d lt e = ap (position_from t k) (drop_more xs k d lt) ∙ ap (λ b. cond b (Some k) (position_from t (k + 1) (drop (k + 1) xs))) e

  pub none_at : (xs : List X) (k : ℕ) → length xs ≤ k → position_from t k (drop k xs) ≡ None
  none_at xs k le = ap (position_from t k) (drop_all k xs le)

  -- one step down
  pub step_down : (xs : List X) (k : ℕ) (d : X) → k < length xs
      → position_from t k (drop k xs) ≡ cond (t (slice_index_or xs k d)) (Some k) (position_from t (k + 1) (drop (k + 1) xs))
  step_down xs k d lt = ap (position_from t k) (drop_more xs k d lt)

  -- what is found is a place of the list
  pub found_below : (xs : List X) (i p : ℕ) → position_from t i xs ≡ Some p → p < i + length xs
  found_below [] i p e = cc
  found_below (x ∷ xs) i p e = by_test (t x) e (found_below xs (i + 1) p)
    where
      by_test : (b : Bool) → cond b (Some i) (position_from t (i + 1) xs) ≡ Some p → (position_from t (i + 1) xs ≡ Some p → p < i + 1 + length xs) → p < i + length (x ∷ xs)
      by_test true h later = let same : i ≡ p = cc in omega arith
      by_test false h later = omega (arith, later h)

  -- the first element that passes is found
  pub found_at : (xs : List X) (d : X) (i k : ℕ) → k < length xs → t (slice_index_or xs k d) ≡ true → ((h : ℕ) → h < k → t (slice_index_or xs h d) ≡ false)
      → position_from t i xs ≡ Some (i + k)
  found_at [] d i k lt e before = absurd (omega arith)
  found_at (x ∷ xs) d i zero lt e before = ap (λ b. cond b (Some i) (position_from t (i + 1) xs)) e ∙ ap Some (omega arith)
  found_at (x ∷ xs) d i (suc k) lt e before =
      let first : t x ≡ false = before 0 (omega arith) in
      ap (λ b. cond b (Some i) (position_from t (i + 1) xs)) first
      ∙ found_at xs d (i + 1) k (omega arith) e (λ h below. before (suc h) (omega arith))
      ∙ ap Some (omega arith)

  -- where none is found, none passes
  pub none_passes : (xs : List X) (d : X) (i k : ℕ) → position_from t i xs ≡ None → k < length xs → t (slice_index_or xs k d) ≡ false
  none_passes [] d i k e lt = absurd (omega arith)
  none_passes (x ∷ xs) d i k e lt = by_test (t x) refl e (λ later j j_in. none_passes xs d (i + 1) j later j_in)
    where
      at_place : (k : ℕ) → t x ≡ false → ((j : ℕ) → j < length xs → t (slice_index_or xs j d) ≡ false) → k < length (x ∷ xs) → t (slice_index_or (x ∷ xs) k d) ≡ false
      at_place zero h later lt = h
      at_place (suc k) h later lt = later k (omega arith)

      by_test : (b : Bool) → t x ≡ b → cond b (Some i) (position_from t (i + 1) xs) ≡ None → (position_from t (i + 1) xs ≡ None → (j : ℕ) → j < length xs → t (slice_index_or xs j d) ≡ false)
          → t (slice_index_or (x ∷ xs) k d) ≡ false
      by_test true h none later = cc
      by_test false h none later = at_place k h (later none) lt

  -- and the other way round
  pub nowhere : (xs : List X) (d : X) (i : ℕ) → ((k : ℕ) → k < length xs → t (slice_index_or xs k d) ≡ false) → position_from t i xs ≡ None
  nowhere [] d i none = refl
  nowhere (x ∷ xs) d i none =
      let first : t x ≡ false = none 0 (omega arith) in
      ap (λ b. cond b (Some i) (position_from t (i + 1) xs)) first ∙ nowhere xs d (i + 1) (λ k lt. none (suc k) (omega arith))

  -- what is found: it passes, and none before it does
  pub record IsFirstPass (xs : List X) (d : X) (i p : ℕ) : Type 0 where
    pub place : ℕ
    pub is : p ≡ i + place
    pub inside : place < length xs
    pub passes : t (slice_index_or xs place d) ≡ true
    pub before : (h : ℕ) → h < place → t (slice_index_or xs h d) ≡ false

  pub found_first : (xs : List X) (d : X) (i p : ℕ) → position_from t i xs ≡ Some p → IsFirstPass xs d i p
  found_first [] d i p e = cc
  found_first (x ∷ xs) d i p e = by_test (t x) refl e (found_first xs d (i + 1) p)
    where
      before_more : (q : IsFirstPass xs d (i + 1) p) → t x ≡ false → (h : ℕ) → h < suc q.place → t (slice_index_or (x ∷ xs) h d) ≡ false
      before_more q f zero lt = f
      before_more q f (suc h) lt = q.before h (omega arith)

      later : t x ≡ false → IsFirstPass xs d (i + 1) p → IsFirstPass (x ∷ xs) d i p
      later f q = record { place = suc q.place; is = omega (arith, q.is); inside = omega (arith, q.inside); passes = q.passes; before = before_more q f }

      by_test : (b : Bool) → t x ≡ b → cond b (Some i) (position_from t (i + 1) xs) ≡ Some p → (position_from t (i + 1) xs ≡ Some p → IsFirstPass xs d (i + 1) p) → IsFirstPass (x ∷ xs) d i p
      by_test true f h rest =
          let same : i ≡ p = cc in
          record { place = 0; is = omega arith; inside = omega arith; passes = f; before = λ k lt. absurd (omega arith) }
      by_test false f h rest = later f (rest h)
