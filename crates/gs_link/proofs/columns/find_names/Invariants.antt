use Rattle.std.proofs.Common.{◌≡◌, map, take}
use Rattle.gs_link.specs.Columns.{raw_name}
use Rattle.gs_link.proofs.columns.find_names.Given as goal

abbrev pub invariant-loop-inst : goal.invariant-loop-inst
invariant-loop-inst l = l.names.items ≡ map raw_name (take l.inst-index l.insts)
