use Rattle.gs_move.proofs.TrialLaws.{trial_judged, trial_whole}
use Rattle.gs_move.proofs.laws.trials_are_judged.Goals as goal

pub returns-clause-outcome : goal.returns-clause-outcome
returns-clause-outcome c = λ J s m front worker law. trial_judged J c.args.design.now s m front worker law

pub returns-clause-delta : goal.returns-clause-delta
returns-clause-delta c = λ J s m front worker law. trial_whole J c.args.design.now s m front worker law
