use Rattle.std.proofs.Common.{◌≡◌, map, take}
use Rattle.gs_design.specs.Insts.{inst_first}
use Rattle.gs_design.proofs.first.firsts.Given as goal

abbrev pub invariant-loop-number : goal.invariant-loop-number
invariant-loop-number l = l.places.items ≡ map inst_first (take l.number l.insts)
