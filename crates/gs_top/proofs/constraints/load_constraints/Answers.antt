use Rattle.gs_sdc.specs.Sdc.{IsSdc}
use Rattle.gs_top.specs.Design.{SdcCause}
use Rattle.gs_top.proofs.Stages.{goes_on, settled_on, stops}
use Rattle.gs_top.proofs.constraints.load_constraints.Goals as goal

pub returns-in-Ok : goal.returns-in-Ok
returns-in-Ok g c =
    goes_on c.in-Ok.ensures.work (settled_on (IsSdc c.args.units) (SdcCause c.args.units) c.as_slice.ensures c.read_text.ensures)

pub returns-in-Err : goal.returns-in-Err
returns-in-Err g c = stops c.in-Err.ensures.work
