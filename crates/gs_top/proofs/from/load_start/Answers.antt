use Rattle.std.proofs.Common.{◌≡◌}
use Rattle.gs_design.specs.Parts.{parts_of}
use Rattle.gs_design.specs.Sizes.{netlist_sizes}
use Rattle.gs_top.specs.Start.{start_in}
use Rattle.gs_top.proofs.Stages.{chosen, settled}
use Rattle.gs_top.proofs.from.load_start.Goals as goal

pub returns-in-Some-clause-work : goal.returns-in-Some-clause-work
returns-in-Some-clause-work g c =
    chosen (λ o. start_in o (parts_of c.args.design.now)) c.in-Some.is c.load_sizes.ensures.work

pub returns-in-None-clause-work : goal.returns-in-None-clause-work
returns-in-None-clause-work g c =
    chosen (λ o. start_in o (parts_of c.args.design.now)) c.in-None.is
    (settled (λ s. s ≡ netlist_sizes c.args.design.now) (λ s. ⊥) c.netlist_start.ensures.settled)
