-- The text of sizes: a line for each instance in order, with its name, one space, its cell and a newline.

use Rattle.std.specs.Prelude.{ℕ, List, [], ◌∷◌, ◌++◌, flat_map, length}
use Rattle.std.specs.List.{range_with_len}
use Rattle.gs_design.specs.Insts.{inst_at}
use Rattle.gs_design.specs.Sizes.{cell_of}
use Rattle.gs_design.specs.declared.design.Design.{Design}

abbrev pub line_text : Design → List ℕ → ℕ → List ℕ
line_text d s g = (inst_at d.insts g).name ++ 32 ∷ (cell_of d s g).name ++ 10 ∷ []

abbrev pub sizes_text : Design → List ℕ → List ℕ
sizes_text d s = flat_map (line_text d s) (range_with_len 0 (length d.insts))
