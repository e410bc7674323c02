use Rattle.std.proofs.Common.{◌≡◌, ◌++◌, drop, map}
use Rattle.std.specs.List.{flat_map}
use Rattle.gs_design.specs.Cell.{pin_name}
use Rattle.gs_lib.specs.Classes.{coded}
use Rattle.gs_lib.proofs.classes.push_pins.Given as goal

abbrev pub invariant-loop-pin : goal.invariant-loop-pin
invariant-loop-pin l = l.code.items ++ flat_map coded (map pin_name (drop l.pin-index l.pins)) ≡ l.initial.code.items ++ flat_map coded (map pin_name l.pins)
