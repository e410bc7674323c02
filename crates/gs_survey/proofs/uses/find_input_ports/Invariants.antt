use Rattle.std.proofs.Common.{◌≡◌, take}
use Rattle.gs_survey.specs.Uses.{input_ports}
use Rattle.gs_survey.proofs.uses.find_input_ports.Given as goal

abbrev pub invariant-loop-port : goal.invariant-loop-port
invariant-loop-port l = l.nets.items ≡ input_ports (take l.port-index l.ports)
