use Rattle.gs_design.specs.Parts.{parts_of}
use Rattle.gs_link.specs.Cause.{HasCause}
use Rattle.gs_link.specs.Linked.{Linked}
use Rattle.gs_survey.specs.declared.error.LinkErr.TheVariants.{Mem}
use Rattle.gs_top.specs.Refusal.{link_status}
use Rattle.gs_top.proofs.Linking.{link_split, unlinked}
use Rattle.gs_top.proofs.Readers.{read_ok}
use Rattle.gs_top.proofs.link.link_files.Goals as goal

pub returns-in-Ok : goal.returns-in-Ok
returns-in-Ok c =
    let n = c.args.netlist in
    let l = c.args.library in
    let w = c.args.wires.now in
    let k = c.args.constraints.now in
    read_ok Mem link_status (Linked n l w k) (HasCause n l w k) (parts_of c.in-Ok.design) c.in-Ok.ensures.ok c.in-Ok.ensures.only c.in-Ok.ensures.exact

pub returns-in-Err : goal.returns-in-Err
returns-in-Err c =
    let n = c.args.netlist in
    let l = c.args.library in
    let w = c.args.wires.now in
    let k = c.args.constraints.now in
    unlinked (Linked n l w k) (HasCause n l w k) c.in-Err.error c.link_status.result c.link_status.ensures c.in-Err.ensures.exact (link_split c.in-Err.error) c.in-Err.ensures.err c.in-Err.ensures.only
