use Rattle.std.proofs.Common.{◌≡◌, ◌++◌, map}
use Rattle.std.specs.List.{range_with_len, flat_map, filter}
use Rattle.gs_design.specs.Ends.{is_data_pin, pins_of_inst}
use Rattle.gs_link.specs.Linked.{pin_end}
use Rattle.gs_link.proofs.ends.push_all_pin_ends.Given as goal

abbrev pub invariant-loop-inst : goal.invariant-loop-inst
invariant-loop-inst l = l.ends.items ≡ l.initial.ends.items ++ map (pin_end l.insts l.period) (filter (is_data_pin l.cells l.insts) (flat_map (pins_of_inst l.insts) (range_with_len 0 l.inst)))
