use Rattle.std.proofs.Common.{◌≡◌, drop, map}
use Rattle.gs_lib.specs.Draft.{bad_table}
use Rattle.gs_libcell.specs.Timing.{timing_lists}
use Rattle.gs_lib.proofs.fault.bad_table.Given as goal

abbrev pub invariant-loop-timing : goal.invariant-loop-timing
invariant-loop-timing l = bad_table l.first (map timing_lists (drop l.timing-index l.timings)) ≡ bad_table 0 (map timing_lists l.timings)
