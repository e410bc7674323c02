-- Numbers below a count that pass a test, one more, and folds over what is made of them.

use Rattle.std.proofs.Common.{◌≡◌, ℕ, ◌+◌, ◌<◌, ◌≤◌, ◌⊎◌, inl, inr, Bool, true, false, List, [], ◌∷◌, ◌++◌, filter, fold, map, cond, slice_index, sym, ◌∙◌, ap, arith}
use Rattle.std.specs.Prelude.{if◌then◌else◌}
use Rattle.std.specs.List.{range_with_len}
use Rattle.std.proofs.lemmas.Bool.{cases_lt}
use Rattle.std.proofs.lemmas.List.{append-nil, get_or_past, map-append, map-id}
use Rattle.std.proofs.lemmas.List.Elements.{filter-append}
use Rattle.std.proofs.lemmas.List.FromFn.{get_or-map-range_with_len, length-map-range_with_len, map-range_with_len_more}
use Rattle.std.proofs.lemmas.List.Sums.{fold_push}

pub range_more : (n : ℕ) → range_with_len 0 (n + 1) ≡ range_with_len 0 n ++ n ∷ []
range_more n =
    sym (map-id (range_with_len 0 (n + 1))) ∙ map-range_with_len_more (λ (k : ℕ). k) 0 n n (omega arith) ∙ ap (λ ks. ks ++ n ∷ []) (map-id (range_with_len 0 n))

-- one more of what is made of each number
pub map_more : {X : Type 0} (f : ℕ → X) (xs : List X) (y : X) (n : ℕ) → xs ≡ map f (range_with_len 0 n) → y ≡ f n → xs ++ y ∷ [] ≡ map f (range_with_len 0 (n + 1))
map_more f xs y n xs_are y_is = ap (λ zs. zs ++ y ∷ []) xs_are ∙ ap (λ z. map f (range_with_len 0 n) ++ z ∷ []) y_is ∙ sym (map-range_with_len_more f 0 n n (omega arith))

-- what a push that didn't fail leaves
pub pushed : {X : Type 0} (b : Bool) (xs ys : List X) (y : X) → ys ≡ (if b then xs ++ y ∷ [] else xs) → true ≡ b → ys ≡ xs ++ y ∷ []
pushed true xs ys y is ok = is
pushed false xs ys y is ok = absurd cc

-- what holds of each is held past the end too
pub map_below : (f : ℕ → ℕ) (most n : ℕ) → ((k : ℕ) → f k ≤ most) → (e : ℕ) → slice_index (map f (range_with_len 0 n)) e ≤ most
map_below f most n h e = by_range (cases_lt e n)
  where
    by_range : (e < n) ⊎ (n ≤ e) → slice_index (map f (range_with_len 0 n)) e ≤ most
    by_range (inl lt) = let is = get_or-map-range_with_len f 0 n e e 0 lt (omega arith) in let le = h e in omega (arith, is, le)
    by_range (inr past) = let is = get_or_past (map f (range_with_len 0 n)) e 0 (omega (arith, past, length-map-range_with_len f 0 n)) in omega (arith, is)

module _ {X Y : Type 0} (p : ℕ → Bool) (f : ℕ → X) (step : Y → X → Y) (start : Y) where
  abbrev pub made : ℕ → List X
  made n = map f (filter p (range_with_len 0 n))

  abbrev pub folded : ℕ → Y
  folded n = fold step start (made n)

  made_more : (n : ℕ) (b : Bool) → p n ≡ b → made (n + 1) ≡ made n ++ map f (cond b (n ∷ []) [])
  made_more n b is =
      ap (λ ks. map f (filter p ks)) (range_more n)
      ∙ ap (map f) (filter-append p (range_with_len 0 n) (n ∷ []) ∙ ap (λ c. filter p (range_with_len 0 n) ++ cond c (n ∷ []) []) is)
      ∙ map-append f (filter p (range_with_len 0 n)) (cond b (n ∷ []) [])

  pub folded_one : (n : ℕ) → p n ≡ true → folded (n + 1) ≡ step (folded n) (f n)
  folded_one n is = ap (fold step start) (made_more n true is) ∙ fold_push step start (made n) (f n)

  pub folded_none : (n : ℕ) → p n ≡ false → folded (n + 1) ≡ folded n
  folded_none n is = ap (fold step start) (made_more n false is ∙ append-nil (made n))
