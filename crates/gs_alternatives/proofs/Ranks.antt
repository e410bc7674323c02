-- Cells put in order one after another.

use Rattle.std.proofs.Common.{◌≡◌, ◌∙◌, ap, sym, ℕ, suc, ◌+◌, ◌<◌, ◌≤◌, List, [], ◌∷◌, ◌++◌, All, fold, length, ℤ, arith}
use Rattle.std.specs.BTreeMap.{insert_entry}
use Rattle.std.specs.List.{range_with_len}
use Rattle.std.specs.Map.{values_of}
use Rattle.std.specs.Ordering.{match_ordering}
use Rattle.std.specs.declared.cmp.Ordering.{Ordering}
use Rattle.std.specs.declared.cmp.Ordering.TheVariants.{Less, Equal, Greater}
use Rattle.std.proofs.lemmas.List.{map-id}
use Rattle.std.proofs.lemmas.List.FromFn.{get_or-range_with_len, length-range_with_len, map-range_with_len_more}
use Rattle.std.proofs.lemmas.List.Sums.{fold_push}
use Rattle.std.proofs.lemmas.Map.Views.{All-values-insert_entry}
use Rattle.gs_design.specs.Alternatives.{rank_cmp, rank_key, ranked}
use Rattle.gs_design.specs.Cells.{cell_at}
use Rattle.gs_design.specs.declared.cell.Cell.{Cell}

-- an entry more
abbrev pub put : List Cell → List ((ℤ × List ℕ) × ℕ) → ℕ → List ((ℤ × List ℕ) × ℕ)
put cells es c = insert_entry rank_cmp es (rank_key (cell_at cells c)) c

-- the entries of the first n cells
abbrev pub entries_to : List Cell → ℕ → List ((ℤ × List ℕ) × ℕ)
entries_to cells n = fold (put cells) [] (range_with_len 0 n)

range_more : (n : ℕ) → range_with_len 0 (n + 1) ≡ range_with_len 0 n ++ n ∷ []
range_more n =
    sym (map-id (range_with_len 0 (n + 1)))
    ∙ map-range_with_len_more (λ x. x) 0 n n (omega arith)
    ∙ ap (λ xs. xs ++ n ∷ []) (map-id (range_with_len 0 n))

pub entries_more : (cells : List Cell) (n : ℕ) → entries_to cells (n + 1) ≡ put cells (entries_to cells n) n
entries_more cells n = ap (fold (put cells) []) (range_more n) ∙ fold_push (put cells) [] (range_with_len 0 n) n

all-head : {X : Type 0} (P : X → Type 0) (x : X) (xs : List X) → All P (x ∷ xs) → P x
all-head P x xs h = h 0 x (omega arith)

all-tail : {X : Type 0} (P : X → Type 0) (x : X) (xs : List X) → All P (x ∷ xs) → All P xs
all-tail P x xs h k d lt = h (suc k) d (omega arith)

inside_all : (cells : List Cell) (P : ℕ → Type 0) (cs : List ℕ) (es : List ((ℤ × List ℕ) × ℕ)) → All P (values_of es) → All P cs → All P (values_of (fold (put cells) es cs))
inside_all cells P [] es h g = h
inside_all cells P (c ∷ cs) es h g =
    inside_all cells P cs (put cells es c) (All-values-insert_entry rank_cmp (rank_key (cell_at cells c)) c P es h (all-head P c cs g)) (all-tail P c cs g)

numbers_in : (n : ℕ) → All (λ c. c < n) (range_with_len 0 n)
numbers_in n k d lt =
    let k_in : k < n = omega (arith, length-range_with_len 0 n) in
    rw (get_or-range_with_len 0 n k d k_in) (omega arith)

-- the order holds cells
pub ranked_in : (cells : List Cell) → All (λ c. c < length cells) (ranked cells)
ranked_in cells = inside_all cells (λ c. c < length cells) (range_with_len 0 (length cells)) [] (λ k d lt. absurd (omega arith)) (numbers_in (length cells))

module _ {K : Type 0} (cmp : K → K → Ordering) where
  insert_few : (es : List (K × ℕ)) (k : K) (v : ℕ) → length (values_of (insert_entry cmp es k v)) ≤ length (values_of es) + 1
  insert_few [] k v = omega arith
  insert_few (e ∷ es) k v = by_order (cmp k e.0) (insert_few es k v)
    where
      by_order : (r : Ordering) → length (values_of (insert_entry cmp es k v)) ≤ length (values_of es) + 1
          → length (values_of (match_ordering r ((k, v) ∷ e ∷ es) ((e.0, v) ∷ es) (e ∷ insert_entry cmp es k v))) ≤ length (values_of (e ∷ es)) + 1
      by_order Less h = omega arith
      by_order Equal h = omega arith
      by_order Greater h = omega (arith, h)

few_all : (cells : List Cell) (cs : List ℕ) (es : List ((ℤ × List ℕ) × ℕ)) → length (values_of (fold (put cells) es cs)) ≤ length (values_of es) + length cs
few_all cells [] es = omega arith
few_all cells (c ∷ cs) es = omega (arith, few_all cells cs (put cells es c), insert_few rank_cmp es (rank_key (cell_at cells c)) c)

-- it holds no more than all
pub ranked_few : (cells : List Cell) → length (ranked cells) ≤ length cells
ranked_few cells = omega (arith, few_all cells (range_with_len 0 (length cells)) [], length-range_with_len 0 (length cells))
