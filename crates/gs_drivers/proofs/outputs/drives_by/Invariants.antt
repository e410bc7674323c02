use Rattle.std.proofs.Common.{◌≡◌, drop}
use Rattle.gs_drivers.specs.Outputs.{drives}
use Rattle.gs_drivers.proofs.outputs.drives_by.Given as goal

abbrev pub invariant-loop-cell : goal.invariant-loop-cell
invariant-loop-cell l = drives (drop l.cell-index l.cells) l.name l.pin ≡ drives l.cells l.name l.pin
