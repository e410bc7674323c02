use Rattle.std.proofs.Common.{◌≡◌, ◌≤◌, drop, length}
use Rattle.std.specs.List.{position_from}
use Rattle.std.specs.Str.{bytes_eq}
use Rattle.gs_design.specs.Cells.{cell_at}
use Rattle.gs_sizes.proofs.names.place_named.Given as goal

abbrev pub invariant-loop-place : goal.invariant-loop-place
invariant-loop-place l =
    (position_from (λ c. bytes_eq l.cell (cell_at l.design.cells c).name) l.place (drop l.place l.alts) ≡ position_from (λ c. bytes_eq l.cell (cell_at l.design.cells c).name) 0 l.alts)
    × (l.place ≤ length l.alts)
