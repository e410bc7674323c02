use Rattle.std.proofs.Common.{◌≡◌, ◌∙◌}
use Rattle.gs_design.proofs.SizeLaws.{netlist_fits}
use Rattle.gs_design.proofs.design.Design.netlist_sizes.Goals as goal

pub returns-clause-fit : goal.returns-clause-fit
returns-clause-fit c = rw (c.from_vec.ensures, c.in_ok-places.ensures) (netlist_fits c.args.self.now)
