use Rattle.gs_lagrange.proofs.CarryLaws.{carried_small, carried_weights}
use Rattle.gs_lagrange.proofs.weigh.weigh.Goals as goal

pub returns-clause-light : goal.returns-clause-light
returns-clause-light c =
    carried_small c.args.design.now c.args.sizes.now c.args.timing.now c.args.multipliers.now c.requires.timed.fit 0 c.follow.new.flows c.requires.held c.follow.ensures.carried

pub returns-clause-weights : goal.returns-clause-weights
returns-clause-weights c =
    carried_weights c.args.design.now c.args.sizes.now c.args.timing.now c.args.multipliers.now c.requires.timed.fit c.follow.new.flows c.follow.ensures.carried
