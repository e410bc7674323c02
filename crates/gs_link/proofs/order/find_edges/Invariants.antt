use Rattle.std.proofs.Common.{◌≡◌, take}
use Rattle.std.specs.List.{flat_map}
use Rattle.gs_link.specs.Linked.{gate_edges}
use Rattle.gs_link.proofs.order.find_edges.Given as goal

abbrev pub invariant-loop-inst : goal.invariant-loop-inst
invariant-loop-inst l = l.edges.items ≡ flat_map (gate_edges l.cells) (take l.inst l.insts)
