use Rattle.std.proofs.Common.{◌≡◌, ◌<◌, length, sum_by, sym, ◌∙◌, ap, arith}
use Rattle.std.specs.List.{range_with_len}
use Rattle.gs_move.specs.Cone.{in_cone_of}
use Rattle.gs_trial.specs.Over.{over_if}
use Rattle.gs_trial.proofs.OverLaws.{over_more, over_sum}
use Rattle.gs_trial.proofs.plain.over.over_cone.Goals as goal

pub loop-number-preserved : goal.loop-number-preserved
loop-number-preserved c =
    let d = c.args.design.now in
    let t = c.args.old.now in
    let u = c.args.new.now in
    let on = in_cone_of d c.args.mv.now t u in
    let i = c.loop-number.number in
    let lt : c.loop-number.number < length c.args.design.now.nets = omega (arith, c.loop-number-test.true, c.len-number-end.ensures, c.args.design.now.well.few_nets) in (
      over_more on d t i c.loop-number.overs.old c.with_net-overs.result.old c.loop-number.invariant.0 c.with_net-overs.ensures.old,
      over_more on d u i c.loop-number.overs.new c.with_net-overs.result.new c.loop-number.invariant.1 c.with_net-overs.ensures.new,
      omega (arith, c.with_net-overs.ensures.near_old, c.loop-number.invariant.2),
      omega (arith, c.with_net-overs.ensures.near_new, c.loop-number.invariant.3),
      omega (arith, lt),
    )

pub returns-clause-old : goal.returns-clause-old
returns-clause-old c =
    let d = c.args.design.now in
    let on = in_cone_of d c.args.mv.now c.args.old.now c.args.new.now in
    let all : c.loop-number.number ≡ length c.args.design.now.nets = omega (arith, c.loop-number-test.false, c.len-number-end.ensures, c.args.design.now.well.few_nets, c.loop-number.invariant.4) in
    c.loop-number.invariant.0 ∙ ap (λ k. sum_by (over_if on d c.args.old.now) (range_with_len 0 k)) all ∙ sym (over_sum on d c.args.old.now)

pub returns-clause-new : goal.returns-clause-new
returns-clause-new c =
    let d = c.args.design.now in
    let on = in_cone_of d c.args.mv.now c.args.old.now c.args.new.now in
    let all : c.loop-number.number ≡ length c.args.design.now.nets = omega (arith, c.loop-number-test.false, c.len-number-end.ensures, c.args.design.now.well.few_nets, c.loop-number.invariant.4) in
    c.loop-number.invariant.1 ∙ ap (λ k. sum_by (over_if on d c.args.new.now) (range_with_len 0 k)) all ∙ sym (over_sum on d c.args.new.now)
