use Rattle.std.proofs.Common.{◌≡◌, ◌++◌, take, map}
use Rattle.gs_lib.specs.Draft.{arc_lists, arc_of}
use Rattle.gs_libcell.specs.Timing.{timing_lists}
use Rattle.gs_lib.proofs.cell.push_arcs.Given as goal

abbrev pub invariant-loop-pin : goal.invariant-loop-pin
invariant-loop-pin l = map arc_lists l.arcs.items ≡ map arc_lists l.initial.arcs.items ++ map (arc_of (timing_lists l.timing)) (take l.pin-index l.timing.related)
