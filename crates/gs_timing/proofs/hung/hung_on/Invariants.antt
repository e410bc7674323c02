use Rattle.std.specs.Prelude.{◌+ℤ◌}
use Rattle.gs_design.specs.Nets.{net_at}
use Rattle.gs_timing.proofs.SinkLaws.{HungTo}
use Rattle.gs_timing.proofs.hung.hung_on.Given as goal

abbrev pub invariant-loop-sink : goal.invariant-loop-sink
invariant-loop-sink g l =
    HungTo l.design (g.S.SizeView.places l.sizes) l.sink-items l.sink-index ((net_at l.design.nets l.fn.net).wire +ℤ (net_at l.design.nets l.fn.net).port_load) l.slew_bound l.hung.load l.hung.slew_bound
