use Rattle.std.proofs.Common.{sym, ◌∙◌}
use Rattle.gs_incr.proofs.LaidLaws.{length_over}
use Rattle.gs_incr.proofs.cone.evaluated.Goals as goal

pub invariant_of-over : goal.invariant_of-over
invariant_of-over g c = record { as_many = c.requires.laid ∙ sym c.requires.timing }

pub eval_net-requires-clause-sizes : goal.eval_net-requires-clause-sizes
eval_net-requires-clause-sizes g c = c.moves_fit.ensures.sizes c.args.sizes.now c.args.mv.now c.requires.sizes c.requires.mv

pub eval_net-requires-clause-times : goal.eval_net-requires-clause-times
eval_net-requires-clause-times g c = length_over c.args.timing.now c.args.laid.now ∙ c.requires.timing

pub eval_net-requires-clause-calm : goal.eval_net-requires-clause-calm
eval_net-requires-clause-calm g c = c.requires.calm

pub returns-clause-value : goal.returns-clause-value
returns-clause-value g c = c.eval_net.ensures.value
