use Rattle.gs_timing.proofs.FrameLaws.{one_timing}
use Rattle.gs_timing.proofs.laws.one_timing.Goals as goal

pub returns : goal.returns
returns c = one_timing c.args.design.now
