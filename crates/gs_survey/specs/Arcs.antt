-- The arcs of a cell of a number, and of its alternatives. No public clause names this.

use Rattle.std.specs.Prelude.{ℕ, List, Option}
use Rattle.gs_design.specs.Alternatives.{alternatives}
use Rattle.gs_design.specs.Cells.{cell_at}
use Rattle.gs_design.specs.declared.cell.Cell.{Cell}
use Rattle.gs_survey.specs.Counts.{no_arc}
use Rattle.gs_survey.specs.First.{first_some}
use Rattle.gs_survey.specs.declared.error.LinkErr.{LinkErr}

abbrev pub no_arc_of : List Cell → ℕ → Option LinkErr
no_arc_of cells x = no_arc (cell_at cells x)

-- the first refusal of the alternatives of a cell
abbrev pub no_arc_among : List Cell → ℕ → Option LinkErr
no_arc_among cells x = first_some (no_arc_of cells) (alternatives cells x)
