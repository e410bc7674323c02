use Rattle.std.proofs.Common.{◌∙◌, ◌++◌, sym, ap, arith}
use Rattle.gs_link.proofs.Growing.{flat_at}
use Rattle.gs_design.specs.Insts.{inst_at, no_inst}
use Rattle.gs_link.specs.Linked.{gate_edges}
use Rattle.gs_link.proofs.order.find_edges.Goals as goal

pub loop-inst-preserved : goal.loop-inst-preserved
loop-inst-preserved c =
    c.in_ok-push_gate.ensures
    ∙ ap (λ xs. xs ++ gate_edges c.args.cells.now (inst_at c.args.insts.now c.loop-inst.inst)) c.loop-inst.invariant
    ∙ sym (flat_at (gate_edges c.args.cells.now) c.args.insts.now c.loop-inst.inst no_inst (omega (arith, c.len-inst-end.ensures)))
