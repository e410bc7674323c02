-- What the alternatives of a cell of a library are.

use Rattle.std.specs.Prelude.{ℕ, ◌≡◌, ◌≢◌, ◌<◌, ◌≤◌, ◌==◌, true, false, List, [], ◌∷◌, length, All, AllPairs}
use Rattle.std.specs.List.{list_any}
use Rattle.std.specs.declared.cmp.Ordering.TheVariants.{Less}
use Rattle.gs_design.specs.Alternatives.{alike, is_sizable, rank_cmp, rank_key}
use Rattle.gs_design.specs.Cells.{cell_at}
use Rattle.gs_design.specs.declared.cell.Cell.{Cell}

-- whether a number is in the list
abbrev pub IsAmong : List ℕ → ℕ → Type 0
IsAmong xs x = list_any (λ y. y == x) xs ≡ true

pub record AreAlternativesOf (cells : List Cell) (c : ℕ) (alts : List ℕ) : Type 0 where
  -- at most 1,024 cells of the library, which differ, and the cell itself among them
  pub few : length alts ≤ 1024
  pub inside : All (λ x. x < length cells) alts
  pub differ : AllPairs (λ x y. x ≢ y) alts
  pub itself : IsAmong alts c
  -- of a sizable cell exactly the cells alike
  pub are_alike : is_sizable (cell_at cells c) ≡ true → All (λ x. alike (cell_at cells c) (cell_at cells x) ≡ true) alts
  pub all_alike : is_sizable (cell_at cells c) ≡ true → (x : ℕ) → x < length cells → alike (cell_at cells c) (cell_at cells x) ≡ true → IsAmong alts x
  -- by leakage, and then by name
  pub rise : AllPairs (λ x y. rank_cmp (rank_key (cell_at cells x)) (rank_key (cell_at cells y)) ≡ Less) alts
  -- of any other cell itself alone
  pub alone : is_sizable (cell_at cells c) ≡ false → alts ≡ c ∷ []
