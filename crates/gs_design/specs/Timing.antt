-- The equation of a net, and the timing of a design.

use Rattle.std.specs.Prelude.{ℕ, ◌≡◌, ◌<◌, List, fold, length, replicate, slice_index, slice_set, Option, None, Some, ℤ, pos}
use Rattle.gs_design.specs.Cells.{cell_at}
use Rattle.gs_design.specs.Edges.{Edges, output_edges}
use Rattle.gs_design.specs.Insts.{inst_at}
use Rattle.gs_design.specs.Load.{load_bound_of, load_of, slew_bound_of}
use Rattle.gs_design.specs.Nets.{net_at}
use Rattle.gs_design.specs.Sizes.{cell_of}
use Rattle.gs_design.specs.Times.{no_time, time_at}
use Rattle.gs_design.specs.declared.design.Design.{Design}
use Rattle.gs_design.specs.declared.sink.Driven.{Driven}
use Rattle.gs_design.specs.declared.sink.Driver.{Driver}
use Rattle.gs_design.specs.declared.sink.Driver.TheVariants.{Port, Inst}
use Rattle.gs_design.specs.declared.time.Edge.{Edge}
use Rattle.gs_design.specs.declared.time.NetTime.{NetTime}

-- a timing fits a design where there is one record for each net
abbrev pub FitTiming : Design → List NetTime → Type 0
FitTiming d t = length t ≡ length d.nets

-- the edges of a net in a timing
abbrev pub net_edges : List NetTime → ℕ → Edges
net_edges t n = record { rise = (time_at t n).rise; fall = (time_at t n).fall }

-- the edges at the input pins of an instance in a timing
abbrev pub inst_inputs : Design → List NetTime → ℕ → ℕ → Edges
inst_inputs d t g p = net_edges t (slice_index (inst_at d.insts g).inputs p)

-- both edges at every input of a driving cell come with the port's delay and have the given transitions
abbrev pub driven_inputs : (delay : ℤ) → Driven → ℕ → Edges
driven_inputs delay c p = record { rise = record { arrival = delay; slew = c.rise }; fall = record { arrival = delay; slew = c.fall } }

abbrev pub port_edge : (delay : ℤ) → Edge
port_edge delay = record { arrival = delay; slew = pos 0 }

-- The edges that a driver makes at a load: those of the port; those of its driving cell; those of the instance's cell. Of a gate the
-- arcs read its input nets, a flip-flop's rising-edge arcs read none.
abbrev pub driver_edges : Design → List ℕ → List NetTime → (load : ℤ) → Driver → Edges
driver_edges d s t load (Port delay None) = record { rise = port_edge delay; fall = port_edge delay }
driver_edges d s t load (Port delay (Some c)) = output_edges load (driven_inputs delay c) (cell_at d.cells c.cell).arcs
driver_edges d s t load (Inst g) = output_edges load (inst_inputs d t g) (cell_of d s g).arcs

abbrev pub edges_at : Design → List ℕ → List NetTime → ℕ → Edges
edges_at d s t n = driver_edges d s t (load_of d s n) (net_at d.nets n).driver

-- The record of a net, from the cells on it and the records of the input nets of a gate that drives it.
abbrev pub local_of : Design → List ℕ → List NetTime → ℕ → NetTime
local_of d s t n = record {
  load = load_of d s n;
  load_bound = load_bound_of d s n;
  slew_bound = slew_bound_of d s n;
  rise = (edges_at d s t n).rise;
  fall = (edges_at d s t n).fall;
}

-- A timing of a design at its sizes: each net's record is what its equation says. It speaks of sizes that fit the design, which those
-- who use it ask for beside it; of such sizes there is exactly one timing (`gs_timing` shows it).
pub record IsTiming (d : Design) (s : List ℕ) (t : List NetTime) : Type 0 where
  pub as_many : FitTiming d t
  pub each : (n : ℕ) → n < length d.nets → time_at t n ≡ local_of d s t n

-- the timing, net by net in the design's order
abbrev pub time_net : Design → List ℕ → List NetTime → ℕ → List NetTime
time_net d s t n = slice_set t n (local_of d s t n)

abbrev pub timing_of : Design → List ℕ → List NetTime
timing_of d s = fold (time_net d s) (replicate (length d.nets) no_time) d.order
