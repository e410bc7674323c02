use Rattle.std.proofs.Common.{◌≡◌, refl, ℕ, List, Some, None, Option, unwrap_or, ℤ, true, false}
use Rattle.gs_design.specs.Cells.{cell_at}
use Rattle.gs_design.specs.Edges.{candidates, worst}
use Rattle.gs_design.specs.Timing.{driver_edges}
use Rattle.gs_design.specs.Times.{edge_at_zero}
use Rattle.gs_design.specs.declared.arc.TimingArc.{TimingArc}
use Rattle.gs_design.specs.declared.design.Design.{Design}
use Rattle.gs_design.specs.declared.sink.Driven.{Driven}
use Rattle.gs_design.specs.declared.sink.Driver.TheVariants.{Port}
use Rattle.gs_design.specs.declared.time.Edge.{Edge}
use Rattle.gs_design.specs.declared.time.NetTime.{NetTime}
use Rattle.gs_timing.proofs.eval.port_best.Goals as goal

module _ (d : Design) (s : List ℕ) (t : List NetTime) (load delay : ℤ) (o : Option Driven) (c : Driven) (arcs : List TimingArc) (rise fall : Edge) (best : Option Edge)
    (is : o ≡ Some c) (arcs_is : arcs ≡ (cell_at d.cells c.cell).arcs) (rise_is : rise ≡ record { arrival = delay; slew = c.rise }) (fall_is : fall ≡ record { arrival = delay; slew = c.fall }) where
  driven_rise : best ≡ worst None (candidates load true (λ p. record { rise = rise; fall = fall }) arcs) → unwrap_or best edge_at_zero ≡ (driver_edges d s t load (Port delay o)).rise
  driven_rise best_is = rw (is, best_is, arcs_is, rise_is, fall_is) refl

  driven_fall : best ≡ worst None (candidates load false (λ p. record { rise = rise; fall = fall }) arcs) → unwrap_or best edge_at_zero ≡ (driver_edges d s t load (Port delay o)).fall
  driven_fall best_is = rw (is, best_is, arcs_is, rise_is, fall_is) refl

pub returns-in-Some-clause-rise : goal.returns-in-Some-clause-rise
returns-in-Some-clause-rise c = λ s t.
    driven_rise c.args.design.now s t c.args.load c.args.delay c.args.cell.now c.in-Some.driven c.arcs.result.now c.edge_of-rise.result c.edge_of-fall.result c.cell_best.result.rise
    c.in-Some.is c.arcs.ensures c.edge_of-rise.ensures c.edge_of-fall.ensures c.cell_best.ensures.rise

pub returns-in-Some-clause-fall : goal.returns-in-Some-clause-fall
returns-in-Some-clause-fall c = λ s t.
    driven_fall c.args.design.now s t c.args.load c.args.delay c.args.cell.now c.in-Some.driven c.arcs.result.now c.edge_of-rise.result c.edge_of-fall.result c.cell_best.result.fall
    c.in-Some.is c.arcs.ensures c.edge_of-rise.ensures c.edge_of-fall.ensures c.cell_best.ensures.fall
