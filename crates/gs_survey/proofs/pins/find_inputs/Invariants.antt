use Rattle.std.proofs.Common.{◌≡◌, take}
use Rattle.gs_survey.specs.Uses.{all_input_nets}
use Rattle.gs_survey.proofs.pins.find_inputs.Given as goal

abbrev pub invariant-loop-i : goal.invariant-loop-i
invariant-loop-i l = l.nets.items ≡ all_input_nets l.cells (take l.i l.insts)
