use Rattle.std.proofs.Common.{◌≡◌, take, map}
use Rattle.std.specs.List.{flat_map}
use Rattle.gs_lib.specs.Draft.{arc_lists, arcs_of}
use Rattle.gs_libcell.specs.Timing.{timing_lists}
use Rattle.gs_lib.proofs.cell.arcs_of.Given as goal

abbrev pub invariant-loop-timing : goal.invariant-loop-timing
invariant-loop-timing l = map arc_lists l.arcs.items ≡ flat_map arcs_of (map timing_lists (take l.timing-index l.timings))
