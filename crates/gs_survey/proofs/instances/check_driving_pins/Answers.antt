use Rattle.std.proofs.Common.{◌∙◌, ap, sym, arith}
use Rattle.gs_survey.proofs.First.{goes_on, refuses_here}
use Rattle.gs_survey.specs.Instances.{cell_named, not_output, unknown_driving_pin}
use Rattle.gs_sdc.specs.declared.constraints.DriverSpec.{DriverSpec}
use Rattle.gs_survey.proofs.instances.check_driving_pins.Goals as goal

pub returns-in-Err : goal.returns-in-Err
returns-in-Err c = λ ne.
    let driver = c.index-drivers-i.result in
    let here = c.cell_of_driver-cell.ensures driver ∙ ap (λ (d : DriverSpec). cell_named c.args.cells.now d.cell) (sym c.index-drivers-i.is) in
    refuses_here (unknown_driving_pin c.args.cells.now) c.args.drivers.now c.loop-i.i (omega arith) driver c.index-drivers-i.is _ c.loop-i.invariant
    _ (ap (λ cell. not_output cell driver.port driver.pin) (sym here)) c.in-Err.error (c.in-Err.ensures ne)

pub loop-i-preserved : goal.loop-i-preserved
loop-i-preserved c =
    let driver = c.index-drivers-i.result in
    let here = c.cell_of_driver-cell.ensures driver ∙ ap (λ (d : DriverSpec). cell_named c.args.cells.now d.cell) (sym c.index-drivers-i.is) in
    goes_on (unknown_driving_pin c.args.cells.now) c.args.drivers.now c.loop-i.i (omega arith) driver c.index-drivers-i.is _ c.loop-i.invariant
    (ap (λ cell. not_output cell driver.port driver.pin) (sym here) ∙ c.in_default.ensures)
