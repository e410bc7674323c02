use Rattle.std.proofs.Common.{◌≡◌, drop}
use Rattle.gs_survey.specs.First.{first_some}
use Rattle.gs_survey.specs.Instances.{unknown_driving_pin}
use Rattle.gs_survey.proofs.instances.check_driving_pins.Given as goal

abbrev pub invariant-loop-i : goal.invariant-loop-i
invariant-loop-i l = first_some (unknown_driving_pin l.cells) (drop l.i l.drivers) ≡ first_some (unknown_driving_pin l.cells) l.drivers
