use Rattle.std.proofs.Common.{◌≡◌, ◌+ℤ◌, ◌∙◌, ap, nat_abs, ◌<◌, subst}
use Rattle.gs_design.specs.Load.{tighter}
use Rattle.gs_design.specs.Nets.{net_at}
use Rattle.gs_design.specs.declared.hot.PinData.{PinData}
use Rattle.gs_timing.proofs.SinkLaws.{one_sink}
use Rattle.gs_timing.proofs.hung.hung_on.Goals as goal

pub loop-sink-preserved : goal.loop-sink-preserved
loop-sink-preserved g c =
    one_sink c.args.design.now (g.S.SizeView.places c.args.sizes.now) c.sinks-sink-items.result.now c.loop-sink.sink-index
    ((net_at c.args.design.now.nets c.args.net).wire +ℤ (net_at c.args.design.now.nets c.args.net).port_load) c.args.slew_bound.now
    c.loop-sink.hung.load c.loop-sink.hung.slew_bound c.sink-item.result c.with_pin-hung.result.load c.with_pin-hung.result.slew_bound
    c.loop-sink-test.true c.sink-item.is
    (subst (λ (p : PinData). nat_abs p.cap < 17179869184) c.sink_data.ensures.value c.sink_data.ensures.cap)
    c.loop-sink.invariant
    (c.with_pin-hung.ensures.load ∙ ap (λ (p : PinData). c.loop-sink.hung.load +ℤ p.cap) c.sink_data.ensures.value)
    (c.with_pin-hung.ensures.slew_bound ∙ ap (λ (p : PinData). tighter c.loop-sink.hung.slew_bound p.slew_bound) c.sink_data.ensures.value)
