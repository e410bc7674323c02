use Rattle.std.proofs.Common.{subst, IfOk}
use Rattle.gs_design.specs.declared.library.Library.{Library}
use Rattle.gs_lib.specs.Library.{IsLibraryOf}
use Rattle.gs_drivers.specs.Twice.{AreDriversBy}
use Rattle.gs_drivers.proofs.Reading.{by_read}
use Rattle.gs_drivers.proofs.twice.drivers_in.Goals as goal

pub returns-in-Ok : goal.returns-in-Ok
returns-in-Ok c =
    let net = c.args.net.now in
    let netlist = c.args.netlist.now in
    by_read (IsLibraryOf c.args.root.now) (λ (l : Library). AreDriversBy l.cells net netlist) c.in-Ok.library c.drivers_by.result c.in-Ok.ensures.ok
    (subst (λ cells. IfOk c.drivers_by.result (AreDriversBy cells net netlist)) c.as_slice.ensures c.drivers_by.ensures)
