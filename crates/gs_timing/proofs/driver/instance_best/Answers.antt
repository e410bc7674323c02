use Rattle.std.proofs.Common.{◌≡◌, ◌∙◌, ap, true, false, map, slice_index}
use Rattle.gs_design.specs.Edges.{through, worst}
use Rattle.gs_design.specs.Timing.{net_edges}
use Rattle.gs_timing.proofs.EdgeLaws.{step_arc}
use Rattle.gs_timing.proofs.driver.instance_best.Goals as goal

pub loop-arc-preserved : goal.loop-arc-preserved
loop-arc-preserved g c =
    step_arc c.args.load (λ p. net_edges (g.T.TimeView.times c.args.times.now) (slice_index c.args.inputs.now p)) c.args.arcs.now c.loop-arc.arc-index c.arc-item.result
    c.loop-arc.best.rise c.loop-arc.best.fall c.with_arc-best.result.rise c.with_arc-best.result.fall
    c.loop-arc-test.true c.arc-item.is c.loop-arc.invariant
    (c.with_arc-best.ensures.rise ∙ ap (λ es. worst c.loop-arc.best.rise (map (through c.arc-item.result c.args.load true) es)) c.input_time-time.ensures.rise)
    (c.with_arc-best.ensures.fall ∙ ap (λ es. worst c.loop-arc.best.fall (map (through c.arc-item.result c.args.load false) es)) c.input_time-time.ensures.fall)
