use Rattle.std.proofs.Common.{◌<◌, All, length, subst, sym}
use Rattle.gs_link.proofs.SiteLaws.{gates_below, named_drivers, named_inputs, named_loads, named_outputs, named_wires}
use Rattle.gs_link.proofs.WellSound.{sound}
use Rattle.gs_link.proofs.assemble.find_numbering.Goals as goal

pub give_all-requires-clause-inputs : goal.give_all-requires-clause-inputs
give_all-requires-clause-inputs c =
    subst (All (λ n. n < length c.args.netlist.now.nets)) (sym c.requires.survey.named.inputs) (named_inputs c.args.netlist.now c.args.library.now c.args.wires.now c.args.limits.now c.requires.kept c.requires.survey.unrefused)

pub give_all-requires-clause-outputs : goal.give_all-requires-clause-outputs
give_all-requires-clause-outputs c =
    subst (All (λ n. n < length c.args.netlist.now.nets)) (sym c.requires.survey.named.outputs) (named_outputs c.args.netlist.now c.args.library.now c.args.wires.now c.args.limits.now c.requires.kept c.requires.survey.unrefused)

pub give_all-requires-clause-loads : goal.give_all-requires-clause-loads
give_all-requires-clause-loads c =
    subst (All (λ n. n < length c.args.netlist.now.nets)) (sym c.requires.survey.named.loads) (named_loads c.args.netlist.now c.args.library.now c.args.wires.now c.args.limits.now c.requires.kept c.requires.survey.unrefused)

pub give_all-requires-clause-drivers : goal.give_all-requires-clause-drivers
give_all-requires-clause-drivers c =
    subst (All (λ n. n < length c.args.netlist.now.nets)) (sym c.requires.survey.named.drivers) (named_drivers c.args.netlist.now c.args.library.now c.args.wires.now c.args.limits.now c.requires.kept c.requires.survey.unrefused)

pub give_all-requires-clause-wires : goal.give_all-requires-clause-wires
give_all-requires-clause-wires c =
    subst (All (λ n. n < length c.args.netlist.now.nets)) (sym c.requires.survey.named.wires) (named_wires c.args.netlist.now c.args.library.now c.args.wires.now c.args.limits.now c.requires.kept c.requires.survey.unrefused)

pub give_all-requires-clause-gates_below : goal.give_all-requires-clause-gates_below
give_all-requires-clause-gates_below c =
    subst (All (λ n. n < length c.args.netlist.now.nets)) (sym c.requires.survey.used.gates) (gates_below c.args.netlist.now c.args.library.now c.args.wires.now c.args.limits.now c.requires.kept c.requires.survey.unrefused)

pub give_all-requires-clause-few : goal.give_all-requires-clause-few
give_all-requires-clause-few c = (sound c.args.netlist.now c.args.library.now c.args.wires.now c.args.limits.now c.requires.survey.unrefused).few_insts
