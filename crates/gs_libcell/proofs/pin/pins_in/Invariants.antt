use Rattle.std.proofs.Common.{◌≡◌, take}
use Rattle.gs_libcell.specs.Pin.{pins_in}
use Rattle.gs_libcell.specs.Unit.{scale}
use Rattle.gs_libcell.proofs.pin.pins_in.Given as goal

abbrev pub invariant-loop-item : goal.invariant-loop-item
invariant-loop-item l = l.pins.items ≡ pins_in (scale l.units) (take l.item-index l.items)
