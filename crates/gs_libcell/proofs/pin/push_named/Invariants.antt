use Rattle.std.proofs.Common.{◌≡◌, ◌++◌, map, take}
use Rattle.gs_libcell.specs.Pin.{named}
use Rattle.gs_libcell.proofs.pin.push_named.Given as goal

abbrev pub invariant-loop-given : goal.invariant-loop-given
invariant-loop-given l = l.pins.items ≡ l.initial.pins.items ++ map (named l.facts) (take l.given-index l.names)
