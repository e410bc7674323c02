use Rattle.gs_design.specs.Timing.{timing_of}
use Rattle.gs_timing.proofs.FrameLaws.{one_timing}
use Rattle.gs_timing.proofs.PassLaws.{timing_made}
use Rattle.gs_timing.proofs.laws.timing_is_made.Goals as goal

pub returns-clause-made : goal.returns-clause-made
returns-clause-made c = timing_made c.args.design.now

pub returns-clause-only : goal.returns-clause-only
returns-clause-only c = λ s t fit timing. one_timing c.args.design.now s t (timing_of c.args.design.now s) fit timing (timing_made c.args.design.now s fit)
