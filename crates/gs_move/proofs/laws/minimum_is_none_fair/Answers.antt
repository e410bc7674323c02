use Rattle.gs_move.proofs.MinimumLaws.{minimum_by_recovery, minimum_of_none, none_of_minimum, recovery_by_minimum}
use Rattle.gs_move.proofs.laws.minimum_is_none_fair.Goals as goal

pub returns-clause-none : goal.returns-clause-none
returns-clause-none c = λ J s. (minimum_of_none J c.args.design.now s, none_of_minimum J c.args.design.now s)

pub returns-clause-recovery : goal.returns-clause-recovery
returns-clause-recovery c = λ s. (minimum_by_recovery c.args.design.now s, recovery_by_minimum c.args.design.now s)
