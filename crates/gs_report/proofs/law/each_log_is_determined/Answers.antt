use Rattle.gs_report.proofs.LogLaws.{log_alone}
use Rattle.gs_report.proofs.law.each_log_is_determined.Goals as goal

pub returns : goal.returns
returns c = λ k l hk hl e. log_alone c.args.design.now k l hk hl e
