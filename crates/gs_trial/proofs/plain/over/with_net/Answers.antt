use Rattle.std.proofs.Common.{◌+◌, sum_by, sym, ◌∙◌, ap}
use Rattle.std.specs.Prelude.{if◌then◌else◌}
use Rattle.gs_design.specs.Limits.{limits_at, over_in}
use Rattle.gs_limits.specs.declared.outcome.NetOutcome.{NetOutcome}
use Rattle.gs_move.specs.Change.{over_at}
use Rattle.gs_trial.proofs.OverLaws.{over_here}
use Rattle.gs_trial.proofs.plain.over.with_net.Goals as goal

pub returns-then-in_cone-clause-old : goal.returns-then-in_cone-clause-old
returns-then-in_cone-clause-old c =
    let d = c.args.design.now in
    let n = c.args.net in
    ap (λ k. c.args.so_far.now.old + k)
    (ap (λ (o : NetOutcome). o.over_old) c.outcome_at-outcome.ensures.value
    ∙ ap (λ r. sum_by (over_in d r) (limits_at d n)) c.at.ensures
    ∙ over_here d c.args.old.now n c.requires.net
    ∙ ap (λ b. if b then over_at d c.args.old.now n else 0) (sym (sym c.in_cone.ensures ∙ c.if-in_cone.true)))

pub returns-then-in_cone-clause-new : goal.returns-then-in_cone-clause-new
returns-then-in_cone-clause-new c =
    let d = c.args.design.now in
    let n = c.args.net in
    ap (λ k. c.args.so_far.now.new + k)
    (ap (λ (o : NetOutcome). o.over_new) c.outcome_at-outcome.ensures.value
    ∙ ap (λ r. sum_by (over_in d r) (limits_at d n)) c.at-then-in_cone.ensures
    ∙ over_here d c.args.new.now n c.requires.net
    ∙ ap (λ b. if b then over_at d c.args.new.now n else 0) (sym (sym c.in_cone.ensures ∙ c.if-in_cone.true)))
