-- What has been found of instances and driving cells so far.

use Rattle.std.specs.Prelude.{ℕ, ◌≡◌, ◌<◌, List, length, map, None}
use Rattle.gs_design.specs.declared.cell.Cell.{Cell}
use Rattle.gs_survey.specs.First.{first_some}
use Rattle.gs_survey.specs.Instances.{cell_number, unknown_cell, unknown_driving_cell}
use Rattle.gs_sdc.specs.declared.constraints.DriverSpec.{DriverSpec}
use Rattle.gs_verilog.specs.declared.parts.RawInst.{RawInst}

-- the numbers of the cells of instances, all of which are in the library
pub record AreFound (cells : List Cell) (insts : List RawInst) (found : List ℕ) : Type 0 where
  pub are : found ≡ map (λ i. cell_number cells i.cell) insts
  pub known : first_some (unknown_cell cells) insts ≡ None

-- the numbers of the driving cells, all of which are gates of the library
pub record AreDriving (cells : List Cell) (drivers : List DriverSpec) (found : List ℕ) : Type 0 where
  pub are : found ≡ map (λ d. cell_number cells d.cell) drivers
  pub known : first_some (unknown_driving_cell cells) drivers ≡ None

-- the number is that of the instance's cell, which is in the library
pub record IsCellOf (cells : List Cell) (i : RawInst) (number : ℕ) : Type 0 where
  pub is : number ≡ cell_number cells i.cell
  pub inside : number < length cells
