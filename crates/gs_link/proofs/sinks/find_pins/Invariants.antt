use Rattle.std.proofs.Common.{◌≡◌}
use Rattle.std.specs.List.{range_with_len, flat_map}
use Rattle.gs_design.specs.Ends.{pins_of_inst}
use Rattle.gs_link.proofs.sinks.find_pins.Given as goal

abbrev pub invariant-loop-inst : goal.invariant-loop-inst
invariant-loop-inst l = l.sinks.items ≡ flat_map (pins_of_inst l.insts) (range_with_len 0 l.inst)
