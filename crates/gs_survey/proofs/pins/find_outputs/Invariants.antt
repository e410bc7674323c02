use Rattle.std.proofs.Common.{◌≡◌, take}
use Rattle.gs_survey.specs.Uses.{output_nets}
use Rattle.gs_survey.proofs.pins.find_outputs.Given as goal

abbrev pub invariant-loop-i : goal.invariant-loop-i
invariant-loop-i l = l.nets.items ≡ output_nets l.cells (take l.i l.insts)
