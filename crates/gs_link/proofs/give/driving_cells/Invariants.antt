use Rattle.std.proofs.Common.{◌≡◌, map, take}
use Rattle.gs_link.specs.Linked.{driven_by}
use Rattle.gs_link.proofs.give.driving_cells.Given as goal

abbrev pub invariant-loop-i : goal.invariant-loop-i
invariant-loop-i l = l.given.items ≡ map (driven_by l.cells) (take l.i l.drivers)
