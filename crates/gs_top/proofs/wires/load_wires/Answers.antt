use Rattle.gs_spef.specs.Spef.{IsSpef}
use Rattle.gs_top.specs.Design.{SpefCause}
use Rattle.gs_top.proofs.Stages.{goes_on, settled_on, stops}
use Rattle.gs_top.proofs.wires.load_wires.Goals as goal

pub returns-in-Ok : goal.returns-in-Ok
returns-in-Ok g c =
    goes_on c.in-Ok.ensures.work (settled_on IsSpef SpefCause c.as_slice.ensures c.read_text.ensures)

pub returns-in-Err : goal.returns-in-Err
returns-in-Err g c = stops c.in-Err.ensures.work
