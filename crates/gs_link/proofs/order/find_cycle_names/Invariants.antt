use Rattle.std.proofs.Common.{◌≡◌, get_or, map, take}
use Rattle.gs_survey.specs.Numbers.{net_name}
use Rattle.gs_link.proofs.order.find_cycle_names.Given as goal

abbrev pub invariant-loop-i : goal.invariant-loop-i
invariant-loop-i l = l.names.items ≡ map (λ n. net_name l.nets (get_or l.used n 0)) (take l.i l.cycle)
