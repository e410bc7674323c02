use Rattle.gs_timing.proofs.FrameLaws.{record_same}
use Rattle.gs_timing.proofs.laws.record_reads.Goals as goal

pub returns : goal.returns
returns c = λ r s t u n fit lt sizes times. record_same c.args.design.now r s fit t u n lt sizes times
