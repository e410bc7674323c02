use Rattle.std.proofs.Common.{◌<◌, ℕ, length}
use Rattle.gs_design.specs.Alternatives.{alternatives}
use Rattle.gs_design.specs.Class.{AreAlternativesOf}
use Rattle.gs_link.proofs.Joining.{cause_of_loop, design_of, err_of, ok_of}
use Rattle.gs_link.proofs.assemble.link_four.Goals as goal

pub returns-in-Err-build_pieces-clause-err : goal.returns-in-Err-build_pieces-clause-err
returns-in-Err-build_pieces-clause-err c =
    cause_of_loop c.args.netlist c.args.library c.args.wires.now c.args.limits.now c.in-Ok.ensures.found.unrefused c.in-Err-build_pieces.error c.in-Err-build_pieces.ensures.fault

pub assemble-requires : goal.assemble-requires
assemble-requires c =
    let l = c.args.library in
    let kept : (x : ℕ) → x < length l.cells → AreAlternativesOf l.cells x (alternatives l.cells x) = λ x lt. c.alternatives_are_kept.ensures l.slew_default l.cells x l.well lt in
    design_of c.args.netlist l c.args.wires.now c.args.limits.now c.in-Ok-build_pieces.pieces c.in-Ok.ensures.found.unrefused c.in-Ok-build_pieces.ensures.pieces c.requires c.as_slice-wires.ensures.kept c.period-period.ensures.kept kept

pub returns-clause-ok : goal.returns-clause-ok
returns-clause-ok c =
    ok_of c.args.netlist c.args.library c.args.wires.now c.args.limits.now c.in-Ok-build_pieces.pieces c.in-Ok.ensures.found.unrefused c.in-Ok-build_pieces.ensures.pieces c.assemble.result c.assemble.ensures.design

pub returns-clause-err : goal.returns-clause-err
returns-clause-err c = err_of c.args.netlist c.args.library c.args.wires.now c.args.limits.now c.assemble.result c.assemble.ensures.fault
