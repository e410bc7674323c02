use Rattle.std.proofs.Common.{◌≡◌, IfOk, length, map, subst}
use Rattle.std.specs.List.{range_with_len}
use Rattle.gs_design.specs.Ends.{pins_on}
use Rattle.gs_design.specs.Nets.{nets_of}
use Rattle.gs_link.proofs.BuildLaws.{are_nets, nets_are}
use Rattle.gs_link.proofs.SiteLaws.{few_inputs, few_insts, few_used, inside}
use Rattle.gs_link.specs.Columns.{net_row}
use Rattle.gs_link.specs.Linked.{linked_nets}
use Rattle.gs_survey.specs.Numbers.{net_name}
use Rattle.gs_link.proofs.stages.link_nets.Goals as goal

pub build_nets-requires-clause-many : goal.build_nets-requires-clause-many
build_nets-requires-clause-many c = rw c.requires.insts (few_insts c.args.files.now.netlist.now c.args.files.now.library.now c.args.files.now.wires.now c.args.files.now.limits.now c.requires.kept c.requires.unrefused)

pub build_nets-requires-clause-few_inputs : goal.build_nets-requires-clause-few_inputs
build_nets-requires-clause-few_inputs c = rw c.requires.insts (few_inputs c.args.files.now.netlist.now c.args.files.now.library.now c.args.files.now.wires.now c.args.files.now.limits.now c.requires.kept c.requires.unrefused)

pub build_nets-requires-clause-few : goal.build_nets-requires-clause-few
build_nets-requires-clause-few c = rw c.requires.numbering.used (few_used c.args.files.now.netlist.now c.args.files.now.library.now c.args.files.now.wires.now c.args.files.now.limits.now c.requires.kept c.requires.unrefused)

pub build_nets-requires-clause-inside : goal.build_nets-requires-clause-inside
build_nets-requires-clause-inside c = rw (c.requires.insts, c.requires.numbering.used) (inside c.args.files.now.netlist.now c.args.files.now.library.now c.args.files.now.wires.now c.args.files.now.limits.now c.requires.kept c.requires.unrefused)

pub build_nets-requires-clause-are : goal.build_nets-requires-clause-are
build_nets-requires-clause-are c =
    rw (c.nets.ensures, c.requires.inputs, c.requires.insts, c.requires.numbering.used)
    (are_nets c.args.files.now.library.now.cells c.args.files.now.netlist.now c.args.files.now.wires.now c.args.files.now.limits.now c.args.numbering.now.values c.requires.numbering.values)

pub returns : goal.returns
returns c =
    let same : nets_of (map (net_row c.args.inputs.now c.args.numbering.now.values) c.args.numbering.now.used) (map (pins_on c.args.insts.now) (range_with_len 0 (length c.args.numbering.now.used))) (map (net_name c.nets.result.now) c.args.numbering.now.used)
    ≡ linked_nets c.args.files.now.library.now.cells c.args.files.now.netlist.now c.args.files.now.wires.now c.args.files.now.limits.now =
    rw (c.nets.ensures, c.requires.inputs, c.requires.insts, c.requires.numbering.used)
    (nets_are c.args.files.now.library.now.cells c.args.files.now.netlist.now c.args.files.now.wires.now c.args.files.now.limits.now c.args.numbering.now.values c.requires.numbering.values) in
    subst (λ x. IfOk c.build_nets.result (λ n. n ≡ x)) same c.build_nets.ensures
