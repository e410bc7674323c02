use Rattle.std.proofs.Common.{◌≡◌, drop, map}
use Rattle.gs_lib.specs.Draft.{timing_missing}
use Rattle.gs_lib.specs.Faults.{first_some}
use Rattle.gs_libcell.specs.Timing.{timing_lists}
use Rattle.gs_lib.proofs.fault.timings_missing.Given as goal

abbrev pub invariant-loop-timing : goal.invariant-loop-timing
invariant-loop-timing l = first_some timing_missing (map timing_lists (drop l.timing-index l.timings)) ≡ first_some timing_missing (map timing_lists l.timings)
