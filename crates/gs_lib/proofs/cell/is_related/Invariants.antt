use Rattle.std.proofs.Common.{◌≡◌, drop, map}
use Rattle.gs_lib.specs.Draft.{is_related}
use Rattle.gs_libcell.specs.Timing.{timing_lists}
use Rattle.gs_lib.proofs.cell.is_related.Given as goal

abbrev pub invariant-loop-timing : goal.invariant-loop-timing
invariant-loop-timing l = is_related l.place (map timing_lists (drop l.timing-index l.timings)) ≡ is_related l.place (map timing_lists l.timings)
