use Rattle.std.proofs.Common.{◌≡◌, ◌-◌}
use Rattle.std.specs.List.{range_with_len}
use Rattle.gs_survey.specs.First.{first_some}
use Rattle.gs_design.specs.Cell.{output_place}
use Rattle.gs_survey.specs.Counts.{no_arc_at}
use Rattle.gs_survey.proofs.counts.check_inputs.Given as goal

abbrev pub invariant-loop-pin : goal.invariant-loop-pin
invariant-loop-pin l = first_some (no_arc_at l.cell) (range_with_len l.pin (output_place l.cell.pins - l.pin)) ≡ first_some (no_arc_at l.cell) (range_with_len 0 (output_place l.cell.pins))
