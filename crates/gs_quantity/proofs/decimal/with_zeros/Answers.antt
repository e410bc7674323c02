use Rattle.std.proofs.Common.{◌+◌, arith}
use Rattle.gs_quantity.proofs.Rounding.{zeros_far, zero_more, fewer_zeros}
use Rattle.gs_quantity.proofs.decimal.with_zeros.Goals as goal

pub returns-then-zeros-gt12 : goal.returns-then-zeros-gt12
returns-then-zeros-gt12 c = zeros_far c.args.magnitude c.args.zeros (omega arith) (omega arith)

pub returns-then-longer-ge-NUMBER_LIMIT : goal.returns-then-longer-ge-NUMBER_LIMIT
returns-then-longer-ge-NUMBER_LIMIT c =
    omega (
      arith,
      c.loop-step.invariant.0,
      c.if-longer-ge-NUMBER_LIMIT.true,
      zero_more c.args.magnitude c.loop-step._step,
      fewer_zeros c.args.magnitude (c.loop-step._step + 1) c.args.zeros (omega arith),
    )

pub loop-step-preserved : goal.loop-step-preserved
loop-step-preserved c = (omega (arith, c.loop-step.invariant.0, zero_more c.args.magnitude c.loop-step._step), omega arith)
