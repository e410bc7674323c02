use Rattle.std.proofs.Common.{◌≡◌, drop}
use Rattle.gs_survey.specs.First.{first_some}
use Rattle.gs_survey.specs.Instances.{open_pin}
use Rattle.gs_survey.proofs.instances.check_open.Given as goal

abbrev pub invariant-loop-i : goal.invariant-loop-i
invariant-loop-i l = first_some (open_pin l.cells) (drop l.i l.insts) ≡ first_some (open_pin l.cells) l.insts
