use Rattle.std.proofs.Common.{◌≡◌, map, take}
use Rattle.gs_design.specs.Ends.{end_net}
use Rattle.gs_design.proofs.build.nets_of.Given as goal

abbrev pub invariant-loop-end : goal.invariant-loop-end
invariant-loop-end l = l.nets.items ≡ map end_net (take l.end-index l.ends)
