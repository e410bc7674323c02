use Rattle.std.proofs.Common.{◌≡◌, false, true, Some, refl, arith}
use Rattle.gs_design.specs.Cell.{no_pin, output_place, pin_at}
use Rattle.gs_design.specs.Design.{has_arc}
use Rattle.gs_survey.proofs.First.{goes_past, stops_at}
use Rattle.gs_survey.specs.Counts.{no_arc_at}
use Rattle.gs_survey.specs.declared.error.LinkErr.TheVariants as errors
use Rattle.gs_survey.proofs.counts.check_inputs.Goals as goal

pub returns-then-not-has_arc_from : goal.returns-then-not-has_arc_from
returns-then-not-has_arc_from c = λ _.
    let cell = c.args.cell.now in
    let none : has_arc cell.arcs c.loop-pin.pin ≡ false = cc in
    let pin : c.at.result.now ≡ pin_at cell.pins c.loop-pin.pin = c.at.ensures no_pin in
    let fault : no_arc_at cell c.loop-pin.pin ≡ Some (errors.NoArc c.in_ok-copy_of.field-0 c.in_ok-copy_of-2.field-0) = rw (none, c.in_ok-copy_of.ensures, c.in_ok-copy_of-2.ensures, pin) refl in
    stops_at (no_arc_at cell) (output_place cell.pins) c.loop-pin.pin (omega arith) _ c.loop-pin.invariant _ fault

pub loop-pin-preserved : goal.loop-pin-preserved
loop-pin-preserved c =
    let cell = c.args.cell.now in
    let one : has_arc cell.arcs c.loop-pin.pin ≡ true = cc in
    goes_past (no_arc_at cell) (output_place cell.pins) c.loop-pin.pin (omega arith) _ c.loop-pin.invariant (rw one refl)
