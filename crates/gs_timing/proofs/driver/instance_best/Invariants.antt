use Rattle.std.specs.Prelude.{slice_index}
use Rattle.gs_design.specs.Timing.{net_edges}
use Rattle.gs_timing.proofs.EdgeLaws.{BestTo}
use Rattle.gs_timing.proofs.driver.instance_best.Given as goal

abbrev pub invariant-loop-arc : goal.invariant-loop-arc
invariant-loop-arc g l = BestTo l.load (λ p. net_edges (g.T.TimeView.times l.times) (slice_index l.inputs p)) l.arcs l.arc-index l.best.rise l.best.fall
