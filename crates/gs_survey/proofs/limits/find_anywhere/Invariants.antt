use Rattle.std.proofs.Common.{◌≡◌, map, take}
use Rattle.gs_survey.specs.Numbers.{net_number}
use Rattle.gs_spef.specs.declared.wires.Wire.{Wire}
use Rattle.gs_survey.proofs.limits.find_anywhere.Given as goal

abbrev pub invariant-loop-wire : goal.invariant-loop-wire
invariant-loop-wire l = l.numbers.items ≡ map (λ (w : Wire). net_number l.nets w.net) (take l.wire-index l.wires)
