use Rattle.std.proofs.Common.{◌≡◌, ◌+◌, ◌<◌, length, sym, ◌∙◌, ap, subst, arith}
use Rattle.gs_design.specs.Limits.{limits_at}
use Rattle.gs_design.specs.Times.{time_at}
use Rattle.gs_limits.specs.Outcome.{first_broken}
use Rattle.gs_limits.specs.declared.outcome.NetOutcome.{NetOutcome}
use Rattle.gs_move.specs.Change.{is_lost}
use Rattle.gs_trial.proofs.FirstLaws.{IsFirst, first_is, first_more}
use Rattle.gs_trial.proofs.plain.first.first_lost.Goals as goal

pub loop-number-preserved : goal.loop-number-preserved
loop-number-preserved c =
    let d = c.args.design.now in
    let t = c.args.old.now in
    let u = c.args.new.now in
    let i = c.loop-number.number in
    let lt : c.loop-number.number < length c.args.design.now.nets = omega (arith, c.loop-number-test.true, c.len-number-end.ensures, c.args.design.now.well.few_nets) in
    let broken =
    ap (λ (o : NetOutcome). o.broken) c.judge_net-outcome.ensures
    ∙ ap (λ r. first_broken d r c.at-in-loop-number.result (limits_at d i)) c.at.ensures
    ∙ ap (λ r. first_broken d (time_at t i) r (limits_at d i)) c.at-in-loop-number.ensures in (
      subst (IsFirst d (is_lost d t u) (λ m. m < i + 1)) (sym c.earlier-first.ensures)
          (first_more d t u i c.loop-number.first c.judge_net-outcome.result.broken lt c.loop-number.invariant.0 broken),
      omega (arith, lt),
    )

pub returns : goal.returns
returns c =
    let all : c.loop-number.number ≡ length c.args.design.now.nets = omega (arith, c.loop-number-test.false, c.len-number-end.ensures, c.args.design.now.well.few_nets, c.loop-number.invariant.1) in
    first_is c.args.design.now c.args.old.now c.args.new.now c.loop-number.number c.loop-number.first all c.loop-number.invariant.0
