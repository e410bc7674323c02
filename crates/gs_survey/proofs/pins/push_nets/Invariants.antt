use Rattle.std.proofs.Common.{◌≡◌, ◌++◌, map, take}
use Rattle.gs_survey.specs.Uses.{net_at_pin}
use Rattle.gs_survey.proofs.pins.push_nets.Given as goal

abbrev pub invariant-loop-pin : goal.invariant-loop-pin
invariant-loop-pin l = l.nets.items ≡ l.initial.nets.items ++ map (net_at_pin l.links) (take l.pin-index l.pins)
