use Rattle.std.proofs.Common.{◌≡◌, true, false, sym, ◌∙◌}
use Rattle.gs_limits.proofs.OutcomeLaws.{driven, undriven}
use Rattle.gs_limits.proofs.outcome.judge_net.Goals as goal

pub returns-then-driven_by_inst : goal.returns-then-driven_by_inst
returns-then-driven_by_inst c =
    rw (c.one_more.ensures.value, c.one_more-slew.ensures.value)
    (driven c.args.design.now c.args.old.now c.args.new.now c.args.net c.over_setups-setups.result c.over_setups-setups.ensures.value (sym c.driven_by_inst.ensures ∙ c.if-driven_by_inst.true))

pub returns-else-driven_by_inst : goal.returns-else-driven_by_inst
returns-else-driven_by_inst c =
    rw c.one_more-slew.ensures.value
    (undriven c.args.design.now c.args.old.now c.args.new.now c.args.net c.over_setups-setups.result c.over_setups-setups.ensures.value (sym c.driven_by_inst.ensures ∙ c.if-driven_by_inst.false))
