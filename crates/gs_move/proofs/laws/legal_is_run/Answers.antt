use Rattle.gs_move.proofs.RunLaws.{legal_run}
use Rattle.gs_move.proofs.laws.legal_is_run.Goals as goal

pub returns : goal.returns
returns c = legal_run c.args.design.now
