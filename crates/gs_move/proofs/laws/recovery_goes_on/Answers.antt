use Rattle.gs_move.proofs.AloneLaws.{alone_goes_on, alone_settled, alone_spent, sweep_grows, sweep_legal}
use Rattle.gs_move.proofs.EarnedLaws.{sweep_earns}
use Rattle.gs_move.proofs.laws.recovery_goes_on.Goals as goal

pub returns-clause-settled : goal.returns-clause-settled
returns-clause-settled c = λ J start budget es. alone_settled J c.args.design.now start budget es

pub returns-clause-spent : goal.returns-clause-spent
returns-clause-spent c = λ J start budget es. alone_spent J c.args.design.now start budget es

pub returns-clause-goes_on : goal.returns-clause-goes_on
returns-clause-goes_on c = λ J start budget es. alone_goes_on J c.args.design.now start budget es

pub returns-clause-grows : goal.returns-clause-grows
returns-clause-grows c = λ J start budget es. sweep_grows J c.args.design.now start budget es

pub returns-clause-legal : goal.returns-clause-legal
returns-clause-legal c = λ J start budget es. sweep_legal J c.args.design.now start budget es

pub returns-clause-earned : goal.returns-clause-earned
returns-clause-earned c = λ J start budget es n legal room h. sweep_earns J c.args.design.now start budget es n legal room h
