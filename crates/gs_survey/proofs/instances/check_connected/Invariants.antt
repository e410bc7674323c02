use Rattle.std.proofs.Common.{◌≡◌, drop}
use Rattle.gs_survey.specs.First.{first_some}
use Rattle.gs_survey.specs.Instances.{open_at}
use Rattle.gs_survey.proofs.instances.check_connected.Given as goal

abbrev pub invariant-loop-pin : goal.invariant-loop-pin
invariant-loop-pin l = first_some (open_at l.inst) (drop l.pin-index l.cell.pins) ≡ first_some (open_at l.inst) l.cell.pins
