use Rattle.gs_timing.proofs.PassLaws.{timing_late}
use Rattle.gs_timing.proofs.laws.arrivals_are_small.Goals as goal

pub returns : goal.returns
returns c = timing_late c.args.design.now
