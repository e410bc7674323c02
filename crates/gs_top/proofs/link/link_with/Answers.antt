use Rattle.gs_link.specs.Linked.{Linked}
use Rattle.gs_top.specs.Design.{LinkCause, link, sdc_text, spef_text}
use Rattle.gs_top.specs.Stage.{and_then}
use Rattle.gs_top.proofs.Stages.{goes_on, settled, stops}
use Rattle.gs_top.proofs.link.link_with.Goals as goal

pub returns-in-Err : goal.returns-in-Err
returns-in-Err g c =
    let l = c.args.library in
    let n = c.args.netlist in
    stops {a = spef_text} {next = λ w. and_then (sdc_text l.units) (λ k. link l n w k)} c.in-Err.ensures

pub returns-in-Err-load_constraints : goal.returns-in-Err-load_constraints
returns-in-Err-load_constraints g c =
    let l = c.args.library in
    let n = c.args.netlist in
    goes_on {a = spef_text} {next = λ w. and_then (sdc_text l.units) (λ k. link l n w k)} {v = c.in-Ok.wires} c.in-Ok.ensures
    (stops {a = sdc_text l.units} {next = λ k. link l n c.in-Ok.wires k} c.in-Err-load_constraints.ensures)

pub returns : goal.returns
returns g c =
    let l = c.args.library in
    let n = c.args.netlist in
    let w = c.in-Ok.wires in
    let k = c.in-Ok-load_constraints.constraints in
    goes_on {a = spef_text} {next = λ w. and_then (sdc_text l.units) (λ k. link l n w k)} {v = w} c.in-Ok.ensures
    (goes_on {a = sdc_text l.units} {next = λ k. link l n w k} {v = k} c.in-Ok-load_constraints.ensures (settled (Linked n l w k) (LinkCause l n w k) c.link_files.ensures))
