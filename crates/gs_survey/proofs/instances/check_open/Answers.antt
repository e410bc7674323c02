use Rattle.std.proofs.Common.{◌∙◌, ap, sym, arith}
use Rattle.gs_design.specs.declared.cell.Cell.{Cell}
use Rattle.gs_survey.proofs.First.{goes_on, refuses_here}
use Rattle.gs_survey.specs.First.{first_some}
use Rattle.gs_survey.specs.Instances.{cell_of, open_at, open_pin}
use Rattle.gs_survey.proofs.instances.check_open.Goals as goal

pub returns-in-Err : goal.returns-in-Err
returns-in-Err c = λ ne.
    let inst = c.index-insts-i.result in
    let here = c.cell_of_inst.ensures inst ∙ ap (cell_of c.args.cells.now) (sym c.index-insts-i.is) in
    refuses_here (open_pin c.args.cells.now) c.args.insts.now c.loop-i.i (omega arith) inst c.index-insts-i.is _ c.loop-i.invariant
    _ (ap (λ (cell : Cell). first_some (open_at inst) cell.pins) (sym here)) c.in-Err.error (c.in-Err.ensures ne)

pub loop-i-preserved : goal.loop-i-preserved
loop-i-preserved c =
    let inst = c.index-insts-i.result in
    let here = c.cell_of_inst.ensures inst ∙ ap (cell_of c.args.cells.now) (sym c.index-insts-i.is) in
    goes_on (open_pin c.args.cells.now) c.args.insts.now c.loop-i.i (omega arith) inst c.index-insts-i.is _ c.loop-i.invariant
    (ap (λ (cell : Cell). first_some (open_at inst) cell.pins) (sym here) ∙ c.in_default.ensures)
