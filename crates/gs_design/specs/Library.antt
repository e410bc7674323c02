-- What the type of a library keeps, beside what each of its cells does.

use Rattle.std.specs.Prelude.{◌≢◌, ◌≤◌, List, length, map, All, AllPairs, Option, ℤ}
use Rattle.gs_text.specs.Pieces.{IsUnbroken}
use Rattle.gs_design.specs.Alternatives.{class_size}
use Rattle.gs_design.specs.Amounts.{IsAmountIfGiven}
use Rattle.gs_design.specs.Cells.{cell_name}
use Rattle.gs_design.specs.declared.cell.Cell.{Cell}

pub record IsLibrary (slew_default : Option ℤ) (cells : List Cell) : Type 0 where
  pub few : length cells ≤ 65535
  -- the names differ, and none is empty or holds white
  pub differ : AllPairs (λ x y. x ≢ y) (map cell_name cells)
  pub named : All (λ c. IsUnbroken c.name) cells
  -- no class of alternatives has more than 1,024 cells
  pub classes : All (λ c. class_size cells c ≤ 1024) cells
  pub slew_default_in : IsAmountIfGiven slew_default
