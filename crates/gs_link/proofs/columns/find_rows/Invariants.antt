use Rattle.std.proofs.Common.{◌≡◌, map, take}
use Rattle.gs_link.specs.Columns.{row_of}
use Rattle.gs_link.proofs.columns.find_rows.Given as goal

abbrev pub invariant-loop-i : goal.invariant-loop-i
invariant-loop-i l = l.rows.items ≡ map (row_of l.cells l.stretches l.numbers) (take l.i l.insts)
