use Rattle.gs_timing.proofs.EdgeLaws.{BestTo}
use Rattle.gs_timing.proofs.driver.cell_best.Given as goal

abbrev pub invariant-loop-arc : goal.invariant-loop-arc
invariant-loop-arc l = BestTo l.load (λ p. record { rise = l.rise; fall = l.fall }) l.arcs l.arc-index l.best.rise l.best.fall
