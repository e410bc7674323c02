-- The leakage of the first instances.

use Rattle.std.proofs.Common.{◌≡◌, ℕ, ◌+◌, ◌*◌, ◌<◌, ◌≤◌, List, [], ◌∷◌, ◌++◌, fold, length, map, slice_index, ℤ, pos, ◌+ℤ◌, ◌≤ℤ◌, refl, sym, ◌∙◌, ap, arith}
use Rattle.std.specs.List.{range_with_len}
use Rattle.std.proofs.lemmas.Int.{ints}
use Rattle.std.proofs.lemmas.List.FromFn.{map-range_with_len_more}
use Rattle.std.proofs.lemmas.List.Sums.{fold-append}
use Rattle.gs_design.specs.Amounts.{IsAmount}
use Rattle.gs_design.specs.Insts.{inst_at}
use Rattle.gs_design.specs.Sizes.{FitSizes, cell_of}
use Rattle.gs_design.specs.declared.design.Design.{Design}

map_same : (xs : List ℕ) → map (λ x. x) xs ≡ xs
map_same [] = refl
map_same (x ∷ xs) = ap (λ ys. x ∷ ys) (map_same xs)

numbers_more : (n : ℕ) → range_with_len 0 n ++ n ∷ [] ≡ range_with_len 0 (n + 1)
numbers_more n =
    sym (sym (map_same (range_with_len 0 (n + 1))) ∙ map-range_with_len_more (λ x. x) 0 n n (omega arith) ∙ ap (λ xs. xs ++ n ∷ []) (map_same (range_with_len 0 n)))

abbrev pub leak_more : Design → List ℕ → ℤ → ℕ → ℤ
leak_more d s total g = total +ℤ (cell_of d s g).leakage

-- the leakage of the first n instances
abbrev pub leak_to : Design → List ℕ → ℕ → ℤ
leak_to d s n = fold (leak_more d s) (pos 0) (range_with_len 0 n)

pub record IsLeakTo (d : Design) (s : List ℕ) (n : ℕ) (total : ℤ) : Type 0 where
  pub few : n ≤ length d.insts
  pub is : total ≡ leak_to d s n
  pub low : pos 0 ≤ℤ total
  pub high : total ≤ℤ pos (n * 1099511627776)

pub one_inst : (d : Design) (s : List ℕ) (n : ℕ) (total leak : ℤ) → n < length d.insts → IsLeakTo d s n total → leak ≡ (cell_of d s n).leakage → IsAmount leak → IsLeakTo d s (n + 1) (total +ℤ leak)
one_inst d s n total leak lt h e a = record {
  few = omega (arith, lt);
  is = ap (λ z. z +ℤ leak) h.is ∙ ap (λ z. leak_to d s n +ℤ z) e ∙ sym (fold-append (leak_more d s) (pos 0) (range_with_len 0 n) (n ∷ [])) ∙ ap (fold (leak_more d s) (pos 0)) (numbers_more n);
  low = omega (arith, ints, h.low, a.0);
  high = omega (arith, ints, h.high, a.1);
}

-- the cell of an instance is one of the design's
pub cell_in : (d : Design) (s : List ℕ) (g : ℕ) → FitSizes d s → g < length d.insts → slice_index (inst_at d.insts g).alts (slice_index s g) < length d.cells
cell_in d s g h lt = (d.well.alts g lt).cells_in (slice_index s g) 0 (h.places_in g lt)
