use Rattle.gs_top.specs.Design.{library, linked_with, netlist_text}
use Rattle.gs_top.specs.Stage.{and_then}
use Rattle.gs_top.proofs.Stages.{goes_on, stops}
use Rattle.gs_top.proofs.link.load_design.Goals as goal

pub returns-in-Err : goal.returns-in-Err
returns-in-Err g c = stops {a = library} {next = λ l. and_then netlist_text (λ n. linked_with l n)} c.in-Err.ensures

pub returns-in-Err-load_netlist : goal.returns-in-Err-load_netlist
returns-in-Err-load_netlist g c =
    let l = c.in-Ok.library in
    goes_on {a = library} {next = λ l. and_then netlist_text (λ n. linked_with l n)} {v = l} c.in-Ok.ensures
    (stops {a = netlist_text} {next = λ n. linked_with l n} c.in-Err-load_netlist.ensures)

pub returns : goal.returns
returns g c =
    let l = c.in-Ok.library in
    let n = c.in-Ok-load_netlist.netlist in
    goes_on {a = library} {next = λ l. and_then netlist_text (λ n. linked_with l n)} {v = l} c.in-Ok.ensures
    (goes_on {a = netlist_text} {next = λ n. linked_with l n} {v = n} c.in-Ok-load_netlist.ensures c.link_with.ensures)
