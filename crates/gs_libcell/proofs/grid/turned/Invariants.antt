use Rattle.std.proofs.Common.{◌≡◌, ◌+◌, ◌*◌, map}
use Rattle.std.specs.List.{flat_map, range_with_len}
use Rattle.gs_quantity.specs.Lookup.{at}
use Rattle.gs_libcell.proofs.grid.turned.Given as goal

abbrev pub invariant-loop-col : goal.invariant-loop-col
invariant-loop-col l = l.turned.items ≡ flat_map (λ col. map (λ row. at l.values (row * l.cols + col)) (range_with_len 0 l.rows)) (range_with_len 0 l.col)
