-- The list of each class.

use Rattle.std.proofs.Common.{◌≡◌, ◌∙◌, ap, sym, refl, ℕ, ◌<◌, ◌==◌, List, [], ◌∷◌, All, length, map, slice_index, slice_index_or, filter, true, if◌then◌else◌, arith}
use Rattle.std.proofs.lemmas.List.{get_or-map, get_or_default, length-map}
use Rattle.std.proofs.lemmas.List.FromFn.{get_or-map-range_with_len, length-map-range_with_len}
use Rattle.gs_design.specs.Alternatives.{alike, alternatives, is_sizable, ranked}
use Rattle.gs_design.specs.Cells.{cell_at}
use Rattle.gs_design.specs.declared.cell.Cell.{Cell}
use Rattle.gs_list.specs.Groups.{by_key_of, with_key}
use Rattle.gs_alternatives.specs.Classes.{AreClasses}
use Rattle.gs_alternatives.proofs.FirstLaws.{alternatives_sizable, filter_same}
use Rattle.gs_alternatives.proofs.Ranks.{ranked_in}

-- the items whose key is k, where the key is a function of the item
key_filter : (f : ℕ → ℕ) (k : ℕ) (xs : List ℕ) → with_key k (map f xs) xs ≡ filter (λ x. f x == k) xs
key_filter f k [] = refl
key_filter f k (x ∷ xs) = ap (λ ys. if f x == k then x ∷ ys else ys) (key_filter f k xs)

pub keys_below : (classes order : List ℕ) → All (λ c. c < length classes) order → All (λ k. k < length classes) classes → All (λ k. k < length classes) (map (slice_index classes) order)
keys_below classes order inside below k d lt =
    let in_k : k < length order = omega (arith, length-map order (slice_index classes)) in
    let is : slice_index_or (map (slice_index classes) order) k d ≡ slice_index classes (slice_index_or order k 0) = get_or-map (slice_index classes) order k 0 d in_k in
    omega (arith, is, below (slice_index_or order k 0) 0 (inside k 0 in_k))

module _ (cells : List Cell) (classes : List ℕ) (are : AreClasses cells classes) where
  pub all_below : All (λ k. k < length classes) classes
  all_below k d lt = omega (arith, get_or_default classes k d 0 lt, are.below k (omega (arith, are.many)), are.many)

  pub all_inside : All (λ c. c < length classes) (ranked cells)
  all_inside k d lt = omega (arith, ranked_in cells k d lt, are.many)

  module _ (groups : List (List ℕ)) (is : groups ≡ by_key_of (length classes) (map (slice_index classes) (ranked cells)) (ranked cells)) where
    pub as_many : length groups ≡ length cells
    as_many = ap length is ∙ length-map-range_with_len (λ k. with_key k (map (slice_index classes) (ranked cells)) (ranked cells)) 0 (length classes) ∙ are.many

    pub group_is : (c : ℕ) → c < length cells → is_sizable (cell_at cells c) ≡ true → slice_index classes c ≡ c → slice_index_or groups c [] ≡ alternatives cells c
    group_is c lt h lead =
        ap (λ gs. slice_index_or gs c []) is
        ∙ get_or-map-range_with_len (λ k. with_key k (map (slice_index classes) (ranked cells)) (ranked cells)) 0 (length classes) c c [] (omega (arith, are.many)) (omega arith)
        ∙ key_filter (slice_index classes) c (ranked cells)
        ∙ filter_same (λ x. slice_index classes x == c) (λ x. alike (cell_at cells c) (cell_at cells x)) (λ x. x < length cells)
        (λ x in_x. ap (λ k. slice_index classes x == k) (sym lead) ∙ are.tells c x lt in_x h) (ranked cells) (ranked_in cells)
        ∙ sym (alternatives_sizable cells c h)
