use Rattle.std.proofs.Common.{◌≡◌, map, take}
use Rattle.gs_link.specs.Columns.{net_row}
use Rattle.gs_link.proofs.nets.find_net_rows.Given as goal

abbrev pub invariant-loop-i : goal.invariant-loop-i
invariant-loop-i l = l.rows.items ≡ map (net_row l.inputs l.values) (take l.i l.used)
