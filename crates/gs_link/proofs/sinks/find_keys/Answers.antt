use Rattle.std.proofs.Common.{◌∙◌, ◌++◌, sym, ap}
use Rattle.gs_link.proofs.Growing.{flat_range}
use Rattle.std.specs.List.{flat_map, range_with_len}
use Rattle.gs_link.specs.Columns.{inputs_at}
use Rattle.gs_link.proofs.sinks.find_keys.Goals as goal

pub loop-inst-preserved : goal.loop-inst-preserved
loop-inst-preserved c =
    c.in_ok-push_keys.ensures
    ∙ ap (λ xs. xs ++ c.inputs.result.now) c.loop-inst.invariant
    ∙ ap (λ ys. flat_map (inputs_at c.args.insts.now) (range_with_len 0 c.loop-inst.inst) ++ ys) c.inputs.ensures
    ∙ sym (flat_range (inputs_at c.args.insts.now) c.loop-inst.inst)
