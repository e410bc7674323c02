use Rattle.std.proofs.Common.{◌∙◌, length, ap, arith}
use Rattle.gs_link.proofs.InputNets.{begins}
use Rattle.gs_survey.specs.Uses.{all_input_nets, output_ports}
use Rattle.gs_link.proofs.stages.link_parts.Goals as goal

pub find_ranks-requires : goal.find_ranks-requires
find_ranks-requires c = omega (arith, ap length c.as_slice-2.ensures, c.in-Ok.ensures.few)

pub link_insts-requires-clause-reads : goal.link_insts-requires-clause-reads
link_insts-requires-clause-reads c =
    begins (all_input_nets c.args.files.now.library.now.cells c.args.files.now.netlist.now.insts) (output_ports c.args.files.now.netlist.now.ports) c.as_slice.result.now (c.as_slice.ensures ∙ c.requires.used.read)
