use Rattle.std.proofs.Common.{◌≡◌, ◌++◌, ◌+◌, ◌*◌, map}
use Rattle.std.specs.List.{range_with_len}
use Rattle.gs_quantity.specs.Lookup.{at}
use Rattle.gs_libcell.proofs.grid.push_column.Given as goal

abbrev pub invariant-loop-row : goal.invariant-loop-row
invariant-loop-row l = l.turned.items ≡ l.initial.turned.items ++ map (λ row. at l.values (row * l.cols + l.col)) (range_with_len 0 l.row)
