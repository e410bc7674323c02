-- The record of a net, put together of what is read and counted.

use Rattle.std.proofs.Common.{◌≡◌, ℕ, Bool, true, false, List, fold, slice_index, Option, None, Some, unwrap_or, ℤ, ◌+ℤ◌, refl, sym, ◌∙◌, ap}
use Rattle.gs_design.specs.Cells.{cell_at}
use Rattle.gs_design.specs.Edges.{Edges, candidates, output_edges, worst}
use Rattle.gs_design.specs.Hot.{pin_data}
use Rattle.gs_design.specs.Insts.{inst_at}
use Rattle.gs_design.specs.Load.{driver_load_bound, driver_slew_bound, load_of, output_pin}
use Rattle.gs_design.specs.Nets.{net_at}
use Rattle.gs_design.specs.Timing.{driver_edges, local_of, net_edges}
use Rattle.gs_design.specs.Times.{edge_at_zero}
use Rattle.gs_design.specs.declared.arc.TimingArc.{TimingArc}
use Rattle.gs_design.specs.declared.design.Design.{Design}
use Rattle.gs_design.specs.declared.hot.PinData.{PinData}
use Rattle.gs_design.specs.declared.sink.Driven.{Driven}
use Rattle.gs_design.specs.declared.sink.Driver.{Driver}
use Rattle.gs_design.specs.declared.sink.Driver.TheVariants.{Inst, Port}
use Rattle.gs_design.specs.declared.time.Edge.{Edge}
use Rattle.gs_design.specs.declared.time.NetTime.{NetTime}
use Rattle.gs_timing.proofs.FrameLaws.{record_of, same_records}
use Rattle.gs_timing.proofs.SinkLaws.{with_bound}

abbrev pub for_driver : Design → List ℕ → List NetTime → ℕ → Driver → NetTime
for_driver d s t n dr =
    record_of (load_of d s n) (driver_load_bound d s dr) (fold (with_bound d s) (driver_slew_bound d s dr) (net_at d.nets n).sinks) (driver_edges d s t (load_of d s n) dr)

pub local_driver : (d : Design) (s : List ℕ) (t : List NetTime) (n : ℕ) (dr : Driver) → (net_at d.nets n).driver ≡ dr → local_of d s t n ≡ for_driver d s t n dr
local_driver d s t n dr drives = ap (for_driver d s t n) drives

abbrev pub best_edges : Option Edge → Option Edge → Edges
best_edges rise fall = record { rise = unwrap_or rise edge_at_zero; fall = unwrap_or fall edge_at_zero }

pub inst_record : (d : Design) (s : List ℕ) (t : List NetTime) (n g cell : ℕ) (out : PinData) (load : ℤ) (bound : Option ℤ) (inputs : List ℕ) (arcs : List TimingArc) (rise fall : Option Edge)
    → (net_at d.nets n).driver ≡ Inst g
    → cell ≡ slice_index (inst_at d.insts g).alts (slice_index s g)
    → out ≡ pin_data d.slew_default (output_pin (cell_at d.cells cell))
    → load ≡ load_of d s n
    → bound ≡ fold (with_bound d s) out.slew_bound (net_at d.nets n).sinks
    → inputs ≡ (inst_at d.insts g).inputs
    → arcs ≡ (cell_at d.cells cell).arcs
    → rise ≡ worst None (candidates load true (λ p. net_edges t (slice_index inputs p)) arcs)
    → fall ≡ worst None (candidates load false (λ p. net_edges t (slice_index inputs p)) arcs)
    → record_of load out.load_bound bound (best_edges rise fall) ≡ local_of d s t n
inst_record d s t n g cell out load bound inputs arcs rise fall drives cell_is out_is load_is bound_is inputs_are arcs_are rise_is fall_is =
    rw (rise_is, fall_is, bound_is, arcs_are, inputs_are, load_is, out_is, cell_is) (sym (local_driver d s t n (Inst g) drives))

pub port_record : (d : Design) (s : List ℕ) (t : List NetTime) (n : ℕ) (delay : ℤ) (c : Option Driven) (load : ℤ) (bound : Option ℤ) (rise fall : Option Edge)
    → (net_at d.nets n).driver ≡ Port delay c
    → load ≡ load_of d s n
    → bound ≡ fold (with_bound d s) None (net_at d.nets n).sinks
    → unwrap_or rise edge_at_zero ≡ (driver_edges d s t load (Port delay c)).rise
    → unwrap_or fall edge_at_zero ≡ (driver_edges d s t load (Port delay c)).fall
    → record_of load None bound (best_edges rise fall) ≡ local_of d s t n
port_record d s t n delay c load bound rise fall drives load_is bound_is rise_is fall_is =
    rw (rise_is, fall_is, bound_is, load_is) (sym (local_driver d s t n (Port delay c) drives))
