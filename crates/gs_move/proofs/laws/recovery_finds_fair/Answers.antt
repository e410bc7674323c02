use Rattle.gs_move.proofs.FairLaws.{fair_by_recovery, recovery_by_fair}
use Rattle.gs_move.proofs.laws.recovery_finds_fair.Goals as goal

pub returns : goal.returns
returns c = λ s m. (fair_by_recovery c.args.design.now s m, recovery_by_fair c.args.design.now s m)
