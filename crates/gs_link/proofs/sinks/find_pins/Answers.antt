use Rattle.std.proofs.Common.{◌∙◌, ◌++◌, sym, ap}
use Rattle.gs_link.proofs.Growing.{flat_range}
use Rattle.gs_design.specs.Ends.{pins_of_inst}
use Rattle.gs_link.proofs.sinks.find_pins.Goals as goal

pub loop-inst-preserved : goal.loop-inst-preserved
loop-inst-preserved c =
    c.in_ok-push_pins.ensures ∙ ap (λ xs. xs ++ pins_of_inst c.args.insts.now c.loop-inst.inst) c.loop-inst.invariant ∙ sym (flat_range (pins_of_inst c.args.insts.now) c.loop-inst.inst)
