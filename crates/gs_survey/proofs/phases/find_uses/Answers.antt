use Rattle.gs_survey.proofs.Inside.{driven_in, input_ports_in, output_ports_in, read_in}
use Rattle.gs_survey.proofs.phases.find_uses.Goals as goal

pub new-requires : goal.new-requires
new-requires c = rw (c.in_ok-find_input_ports.ensures, c.ports.ensures, c.nets-nets.ensures) (input_ports_in c.args.netlist.now c.requires.kept)

pub new-requires-2 : goal.new-requires-2
new-requires-2 c = rw (c.in_ok-find_output_ports.ensures, c.ports-2.ensures, c.nets-nets.ensures) (output_ports_in c.args.netlist.now c.requires.kept)

pub find_driven-requires : goal.find_driven-requires
find_driven-requires c =
    rw (c.in_ok-gates.ensures, c.insts.ensures.value, c.in_ok-inputs.ensures, c.in_ok-find_input_ports.ensures, c.ports.ensures, c.nets-nets.ensures)
    (driven_in c.args.cells.now c.args.netlist.now c.requires.kept c.requires.open)

pub find_driven-requires-2 : goal.find_driven-requires-2
find_driven-requires-2 c =
    rw (c.in_ok-reads.ensures, c.insts-2.ensures.value, c.in_ok-outputs.ensures, c.in_ok-find_output_ports.ensures, c.ports-2.ensures, c.nets-nets.ensures)
    (read_in c.args.cells.now c.args.netlist.now c.requires.kept c.requires.open)
