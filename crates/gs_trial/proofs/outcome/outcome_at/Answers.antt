use Rattle.std.proofs.Common.{◌≤◌, sym, ap, subst}
use Rattle.gs_limits.specs.declared.outcome.NetOutcome.{NetOutcome}
use Rattle.gs_trial.proofs.OverLaws.{net_small}
use Rattle.gs_trial.proofs.outcome.outcome_at.Goals as goal

pub returns-clause-few_old : goal.returns-clause-few_old
returns-clause-few_old c =
    subst (λ n. n ≤ 309485046714833216143884288) (sym (ap (λ (o : NetOutcome). o.over_old) c.judge_net.ensures))
    (net_small c.args.design.now c.args.old.now c.args.net c.requires c.bounded_record.ensures)

pub returns-clause-few_new : goal.returns-clause-few_new
returns-clause-few_new c =
    subst (λ n. n ≤ 309485046714833216143884288) (sym (ap (λ (o : NetOutcome). o.over_new) c.judge_net.ensures))
    (net_small c.args.design.now c.args.new.now c.args.net c.requires c.bounded_record-2.ensures)
