use Rattle.std.proofs.Common.{◌<◌, length, arith}
use Rattle.gs_limits.proofs.LeakLaws.{one_inst}
use Rattle.gs_limits.proofs.leak.leakage.Goals as goal

pub loop-number-preserved : goal.loop-number-preserved
loop-number-preserved c =
    let lt : c.loop-number.number < length c.args.design.now.insts = omega (arith, c.loop-number-test.true, c.len-number-end.ensures, c.args.design.now.well.few_insts) in
    rw c.added-total.ensures
    (one_inst c.args.design.now c.args.sizes.now c.loop-number.number c.loop-number.total c.leak_at.result lt c.loop-number.invariant c.leak_at.ensures.value c.leak_at.ensures.amount)
