use Rattle.std.proofs.Common.{◌≡◌, ◌*◌, ◌≤◌, take}
use Rattle.gs_survey.specs.Counts.{pin_count}
use Rattle.gs_survey.proofs.counts.count_pins.Given as goal

abbrev pub invariant-loop-i : goal.invariant-loop-i
invariant-loop-i l = record { sum : l.count ≡ pin_count l.cells (take l.i l.insts); few : l.count ≤ 7 * l.i }
