use Rattle.std.proofs.Common.{◌≡◌, map, take}
use Rattle.gs_libcell.specs.Timing.{timing_lists, timings_in}
use Rattle.gs_libcell.proofs.timing.timings_in.Given as goal

abbrev pub invariant-loop-item : goal.invariant-loop-item
invariant-loop-item l = map timing_lists l.timings.items ≡ timings_in l.lib l.flop l.inputs (take l.item-index l.items)
