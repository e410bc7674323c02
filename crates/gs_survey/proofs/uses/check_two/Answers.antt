use Rattle.std.proofs.Common.{length, arith}
use Rattle.gs_survey.proofs.First.{goes_past, where_not}
use Rattle.gs_survey.specs.Uses.{two_drivers}
use Rattle.gs_survey.proofs.uses.check_two.Goals as goal

pub loop-n-preserved : goal.loop-n-preserved
loop-n-preserved c = goes_past (two_drivers c.args.nets.now c.args.driven.now) (length c.args.nets.now) c.loop-n.n (omega arith) _ c.loop-n.invariant (where_not _ _ c.if-has_more.ensures)
