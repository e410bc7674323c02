use Rattle.gs_link.proofs.CauseLaws.{exact_from, only_from}
use Rattle.gs_link.proofs.linking.link.Goals as goal

pub link_four-requires : goal.link_four-requires
link_four-requires c = c.insts-insts.ensures.kept

pub returns-clause-only : goal.returns-clause-only
returns-clause-only c =
    only_from c.args.netlist c.args.library c.args.wires.now c.args.limits.now
    (c.each_design_is_decided.ensures c.args.netlist c.args.library c.args.wires.now c.args.limits.now c.insts-insts.ensures.kept)
    c.link_four.result c.link_four.ensures.ok c.link_four.ensures.err

pub returns-clause-exact : goal.returns-clause-exact
returns-clause-exact c =
    exact_from c.args.netlist c.args.library c.args.wires.now c.args.limits.now
    (c.each_design_is_decided.ensures c.args.netlist c.args.library c.args.wires.now c.args.limits.now c.insts-insts.ensures.kept)
    c.link_four.result c.link_four.ensures.ok c.link_four.ensures.err

pub returns-clause-decided : goal.returns-clause-decided
returns-clause-decided c =
    (c.each_design_is_decided.ensures c.args.netlist c.args.library c.args.wires.now c.args.limits.now c.insts-insts.ensures.kept).decided
