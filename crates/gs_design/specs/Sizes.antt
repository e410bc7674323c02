-- Sizes of a design: for each instance the place of its cell among its alternatives.

use Rattle.std.specs.Prelude.{ℕ, ◌≡◌, ◌+◌, ◌-◌, ◌<◌, List, map, fold, length, slice_index, sum_by, ℤ, pos, ◌+ℤ◌}
use Rattle.std.specs.List.{range_with_len}
use Rattle.gs_design.specs.Ends.{alt_cell}
use Rattle.gs_design.specs.Insts.{inst_at, inst_first}
use Rattle.gs_design.specs.declared.cell.Cell.{Cell}
use Rattle.gs_design.specs.declared.design.Design.{Design}

-- sizes fit a design where there is one place for each instance, below the number of its alternatives
pub record FitSizes (d : Design) (s : List ℕ) : Type 0 where
  pub as_many : length s ≡ length d.insts
  pub places_in : (g : ℕ) → g < length d.insts → slice_index s g < length (inst_at d.insts g).alts

-- the cell of an instance
abbrev pub cell_of : Design → List ℕ → ℕ → Cell
cell_of d s g = alt_cell d.cells (inst_at d.insts g) (slice_index s g)

-- the sizes of the netlist
abbrev pub netlist_sizes : Design → List ℕ
netlist_sizes d = map inst_first d.insts

-- the sum over all instances of a quantity of their cells
abbrev pub sum_over : (Cell → ℤ) → Design → List ℕ → ℤ
sum_over quantity d s = fold (λ total g. total +ℤ quantity (cell_of d s g)) (pos 0) (range_with_len 0 (length d.insts))

-- the leakage of the design, and its area
abbrev pub leak_of : Design → List ℕ → ℤ
leak_of d s = sum_over (λ c. c.leakage) d s

abbrev pub area_of : Design → List ℕ → ℤ
area_of d s = sum_over (λ c. c.area) d s

-- the number of moves away from any sizes: the sum over instances of their alternatives less one
abbrev pub move_count : Design → ℕ
move_count d = sum_by (λ i. length i.alts - 1) d.insts
