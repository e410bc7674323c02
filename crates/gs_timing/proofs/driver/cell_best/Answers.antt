use Rattle.gs_timing.proofs.EdgeLaws.{step_arc}
use Rattle.gs_timing.proofs.driver.cell_best.Goals as goal

pub loop-arc-preserved : goal.loop-arc-preserved
loop-arc-preserved c =
    step_arc c.args.load (λ p. record { rise = c.args.rise.now; fall = c.args.fall.now }) c.args.arcs.now c.loop-arc.arc-index c.arc-item.result
    c.loop-arc.best.rise c.loop-arc.best.fall c.with_arc-best.result.rise c.with_arc-best.result.fall
    c.loop-arc-test.true c.arc-item.is c.loop-arc.invariant c.with_arc-best.ensures.rise c.with_arc-best.ensures.fall
