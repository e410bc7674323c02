use Rattle.std.proofs.Common.{◌≡◌, map, take}
use Rattle.gs_survey.specs.Numbers.{net_name}
use Rattle.gs_link.proofs.nets.find_net_names.Given as goal

abbrev pub invariant-loop-i : goal.invariant-loop-i
invariant-loop-i l = l.names.items ≡ map (net_name l.nets) (take l.i l.used)
