use Rattle.std.proofs.Common.{◌≡◌, ◌++◌, drop, map}
use Rattle.gs_lib.specs.Draft.{input_pins}
use Rattle.gs_libcell.specs.Timing.{timing_lists}
use Rattle.gs_lib.proofs.cell.input_pins.Given as goal

abbrev pub invariant-loop-place : goal.invariant-loop-place
invariant-loop-place l = l.pins.items ++ input_pins l.flop (map timing_lists l.timings) l.place (drop l.place l.inputs) ≡ input_pins l.flop (map timing_lists l.timings) 0 l.inputs
