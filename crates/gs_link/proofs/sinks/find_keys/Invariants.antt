use Rattle.std.proofs.Common.{◌≡◌}
use Rattle.std.specs.List.{range_with_len, flat_map}
use Rattle.gs_link.specs.Columns.{inputs_at}
use Rattle.gs_link.proofs.sinks.find_keys.Given as goal

abbrev pub invariant-loop-inst : goal.invariant-loop-inst
invariant-loop-inst l = l.keys.items ≡ flat_map (inputs_at l.insts) (range_with_len 0 l.inst)
