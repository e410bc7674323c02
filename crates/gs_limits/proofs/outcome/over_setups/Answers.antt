use Rattle.std.proofs.Common.{◌≡◌, ◌<◌, ◌≤◌, length, slice_index_or, ap, sym, ◌∙◌, arith}
use Rattle.gs_limits.specs.Outcome.{with_limit}
use Rattle.gs_design.specs.declared.limit.Limit.TheVariants.{Setup}
use Rattle.gs_limits.proofs.OutcomeLaws.{ends_in, few_ends, setup_more}
use Rattle.gs_limits.proofs.outcome.over_setups.Goals as goal

pub one_more-outcome-requires-clause-placed : goal.one_more-outcome-requires-clause-placed
one_more-outcome-requires-clause-placed c =
    rw c.ends_at-end-items.ensures
    (ends_in c.args.design.now.ends c.args.net c.loop-end.end-index 0 (omega (arith, c.loop-end-test.true, ap length c.ends_at-end-items.ensures)))

pub loop-end-preserved : goal.loop-end-preserved
loop-end-preserved c = (
  c.one_more-outcome.ensures.value
      ∙ ap (λ o. with_limit c.args.design.now c.args.old.now c.args.new.now o (Setup (slice_index_or c.ends_at-end-items.result.now c.loop-end.end-index 0))) c.loop-end.invariant.0
      ∙ sym (setup_more c.args.design.now c.args.old.now c.args.new.now c.ends_at-end-items.result.now c.loop-end.end-index c.loop-end-test.true),
  omega (arith, c.one_more-outcome.ensures.near_old, c.loop-end.invariant.1),
  omega (arith, c.one_more-outcome.ensures.near_new, c.loop-end.invariant.2),
)

pub returns-clause-few_old : goal.returns-clause-few_old
returns-clause-few_old c = omega (arith, c.loop-end.invariant.1, c.loop-end.auto.end-index-end, ap length c.ends_at-end-items.ensures, few_ends c.args.design.now.ends c.args.net, c.args.design.now.well.ends_kept.few)

pub returns-clause-few_new : goal.returns-clause-few_new
returns-clause-few_new c = omega (arith, c.loop-end.invariant.2, c.loop-end.auto.end-index-end, ap length c.ends_at-end-items.ensures, few_ends c.args.design.now.ends c.args.net, c.args.design.now.well.ends_kept.few)
