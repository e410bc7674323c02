use Rattle.std.proofs.Common.{◌≡◌, drop}
use Rattle.gs_lib.specs.Draft.{cap_missing}
use Rattle.gs_lib.specs.Faults.{first_some}
use Rattle.gs_lib.proofs.fault.pins_missing.Given as goal

abbrev pub invariant-loop-pin : goal.invariant-loop-pin
invariant-loop-pin l = first_some cap_missing (drop l.pin-index l.pins) ≡ first_some cap_missing l.pins
