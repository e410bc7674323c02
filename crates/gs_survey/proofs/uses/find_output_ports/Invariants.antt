use Rattle.std.proofs.Common.{◌≡◌, take}
use Rattle.gs_survey.specs.Uses.{output_ports}
use Rattle.gs_survey.proofs.uses.find_output_ports.Given as goal

abbrev pub invariant-loop-port : goal.invariant-loop-port
invariant-loop-port l = l.nets.items ≡ output_ports (take l.port-index l.ports)
