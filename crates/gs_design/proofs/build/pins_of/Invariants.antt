use Rattle.std.proofs.Common.{◌≡◌, map, take}
use Rattle.gs_design.specs.Hot.{pin_data}
use Rattle.gs_design.proofs.build.pins_of.Given as goal

abbrev pub invariant-loop-pin : goal.invariant-loop-pin
invariant-loop-pin l = l.data.items ≡ map (pin_data l.slew_default) (take l.pin-index l.pin-items)
