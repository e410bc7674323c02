use Rattle.std.proofs.Common.{◌≡◌, ◌++◌, drop, filter, map}
use Rattle.gs_lib.specs.Draft.{output_pin}
use Rattle.gs_lib.specs.Profile.{is_output}
use Rattle.gs_lib.proofs.cell.push_outputs.Given as goal

abbrev pub invariant-loop-pin : goal.invariant-loop-pin
invariant-loop-pin l = l.pins.items ++ map output_pin (filter is_output (drop l.pin-index l.named)) ≡ l.initial.pins.items ++ map output_pin (filter is_output l.named)
