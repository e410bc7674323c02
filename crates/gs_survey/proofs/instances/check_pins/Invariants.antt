use Rattle.std.proofs.Common.{◌≡◌, drop}
use Rattle.gs_survey.specs.First.{first_some}
use Rattle.gs_survey.specs.Instances.{unknown_pin}
use Rattle.gs_survey.proofs.instances.check_pins.Given as goal

abbrev pub invariant-loop-i : goal.invariant-loop-i
invariant-loop-i l = first_some (unknown_pin l.cells) (drop l.i l.insts) ≡ first_some (unknown_pin l.cells) l.insts
