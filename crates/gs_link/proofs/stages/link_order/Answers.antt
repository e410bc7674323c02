use Rattle.std.proofs.Common.{length}
use Rattle.gs_link.proofs.SiteLaws.{few_insts, few_used, inside, readable}
use Rattle.gs_link.proofs.WellOrder.{if_few}
use Rattle.gs_link.proofs.stages.link_order.Goals as goal

pub build_order-requires-clause-many : goal.build_order-requires-clause-many
build_order-requires-clause-many c = rw c.requires.insts (few_insts c.args.files.now.netlist.now c.args.files.now.library.now c.args.files.now.wires.now c.args.files.now.limits.now c.requires.kept c.requires.unrefused)

pub build_order-requires-clause-few : goal.build_order-requires-clause-few
build_order-requires-clause-few c = rw c.requires.used (few_used c.args.files.now.netlist.now c.args.files.now.library.now c.args.files.now.wires.now c.args.files.now.limits.now c.requires.kept c.requires.unrefused)

pub build_order-requires-clause-readable : goal.build_order-requires-clause-readable
build_order-requires-clause-readable c =
    rw (c.as_slice.ensures, c.requires.insts)
    (readable c.args.files.now.netlist.now c.args.files.now.library.now c.args.files.now.wires.now c.args.files.now.limits.now c.requires.kept c.requires.unrefused
    (λ x lt. c.alternatives_are_kept.ensures c.args.files.now.library.now.slew_default c.args.files.now.library.now.cells x c.args.files.now.library.now.well lt))

pub build_order-requires-clause-inside : goal.build_order-requires-clause-inside
build_order-requires-clause-inside c = rw (c.requires.insts, c.requires.used) (inside c.args.files.now.netlist.now c.args.files.now.library.now c.args.files.now.wires.now c.args.files.now.limits.now c.requires.kept c.requires.unrefused)

pub returns-clause-order : goal.returns-clause-order
returns-clause-order c = let order = rw (c.as_slice.ensures, c.requires.used, c.requires.insts) at c.build_order.ensures.order in order

pub returns-clause-few : goal.returns-clause-few
returns-clause-few c =
    if_few c.as_slice.result.now c.args.insts.now (length c.args.used.now) c.build_order.result (rw c.requires.used (few_used c.args.files.now.netlist.now c.args.files.now.library.now c.args.files.now.wires.now c.args.files.now.limits.now c.requires.kept c.requires.unrefused)) c.build_order.ensures.order

pub returns-clause-fault : goal.returns-clause-fault
returns-clause-fault c = let fault = rw (c.as_slice.ensures, c.nets.ensures, c.requires.used, c.requires.insts) at c.build_order.ensures.fault in fault
