use Rattle.std.proofs.Common.{◌≡◌, map, slice_index, take}
use Rattle.gs_alternatives.proofs.groups.keys_of.Given as goal

abbrev pub invariant-loop-cell : goal.invariant-loop-cell
invariant-loop-cell l = l.keys.items ≡ map (slice_index l.classes) (take l.cell-index l.order)
