-- The path by which a net is as late as it is: from its later edge back, from each edge to the one at an input net that made it.

use Rattle.std.specs.Prelude.{ℕ, zero, suc, ◌==◌, Bool, true, false, not, List, [], ◌∷◌, map, flat_map, length, slice_index, Option, None, Some, ℤ, int_lt}
use Rattle.std.specs.List.{find, list_any}
use Rattle.std.specs.Option.{option_map}
use Rattle.std.specs.Ordering.{int_eq}
use Rattle.gs_design.specs.Edges.{edge_of, through}
use Rattle.gs_design.specs.Insts.{inst_at}
use Rattle.gs_design.specs.Nets.{net_at}
use Rattle.gs_design.specs.Sizes.{cell_of}
use Rattle.gs_design.specs.Times.{time_at}
use Rattle.gs_design.specs.Timing.{net_edges}
use Rattle.gs_design.specs.declared.arc.Sense.{Sense}
use Rattle.gs_design.specs.declared.arc.Sense.TheVariants.{Same, Other, Both, Launch}
use Rattle.gs_design.specs.declared.arc.TimingArc.{TimingArc}
use Rattle.gs_design.specs.declared.design.Design.{Design}
use Rattle.gs_design.specs.declared.sink.Driver.{Driver}
use Rattle.gs_design.specs.declared.sink.Driver.TheVariants.{Port, Inst}
use Rattle.gs_design.specs.declared.time.NetTime.{NetTime}
use Rattle.gs_lagrange.specs.declared.edge.NetEdge.{NetEdge}

-- the rise of a net, or else its fall
abbrev pub edge_on : (net : ℕ) → (rise : Bool) → NetEdge
edge_on n rise = record { net = n; rise = rise }

-- when an edge of a net comes
abbrev pub arrival_of : List NetTime → NetEdge → ℤ
arrival_of t e = (edge_of e.rise (net_edges t e.net)).arrival

-- the edge of a net with the greater arrival, the rise where they come at one time
abbrev pub later_edge : List NetTime → ℕ → NetEdge
later_edge t n = edge_on n (not (int_lt (time_at t n).rise.arrival (time_at t n).fall.arrival))

-- The edges at an arc's input of which it makes an edge at its output, the rise or else the fall: a rise stands before a fall. The output of
-- a flip-flop follows no input.
abbrev pub sources : Sense → (rise : Bool) → List Bool
sources Same rise = rise ∷ []
sources Other rise = not rise ∷ []
sources Both rise = true ∷ false ∷ []
sources Launch rise = []

-- a candidate for the arrival of an edge at a cell's output: the edge at an input net that it comes from, and when it arrives
pub record Candidate : Type 0 where
  pub from : NetEdge
  pub arrival : ℤ

abbrev pub candidate_from : List NetTime → (inputs : List ℕ) → (load : ℤ) → (rise : Bool) → TimingArc → Bool → Candidate
candidate_from t inputs load rise a source = record {
  from = edge_on (slice_index inputs a.pin) source;
  arrival = (through a load rise (edge_of source (net_edges t (slice_index inputs a.pin)))).arrival;
}

-- the candidates of one arc, and of all arcs in their order
abbrev pub arc_candidates : List NetTime → (inputs : List ℕ) → (load : ℤ) → (rise : Bool) → TimingArc → List Candidate
arc_candidates t inputs load rise a = map (candidate_from t inputs load rise a) (sources a.sense rise)

abbrev pub cell_candidates : List NetTime → (inputs : List ℕ) → (load : ℤ) → (rise : Bool) → List TimingArc → List Candidate
cell_candidates t inputs load rise arcs = flat_map (arc_candidates t inputs load rise) arcs

-- where the first candidate with this arrival comes from
abbrev pub first_with : ℤ → List Candidate → Option NetEdge
first_with arrival cs = option_map (λ c. c.from) (find (λ c. int_eq c.arrival arrival) cs)

-- The edge that an edge of a net comes from, where a gate drives the net: that of the first candidate whose arrival is the edge's.
abbrev pub source_through : Design → List ℕ → List NetTime → NetEdge → Driver → Option NetEdge
source_through d s t e (Port delay cell) = None
source_through d s t e (Inst g) = first_with (arrival_of t e) (cell_candidates t (inst_at d.insts g).inputs (time_at t e.net).load e.rise (cell_of d s g).arcs)

abbrev pub came_from : Design → List ℕ → List NetTime → NetEdge → Option NetEdge
came_from d s t e = source_through d s t e (net_at d.nets e.net).driver

-- a walk from an edge on, of so many edges at most
abbrev pub walk : (NetEdge → Option NetEdge) → ℕ → Option NetEdge → List NetEdge
walk back zero o = []
walk back (suc steps) None = []
walk back (suc steps) (Some e) = e ∷ walk back steps (back e)

-- The path back from the later edge of a net. No path has more edges than there are nets.
abbrev pub path_of : Design → List ℕ → List NetTime → ℕ → List NetEdge
path_of d s t n = walk (came_from d s t) (length d.nets) (Some (later_edge t n))

-- whether a net is on a path
abbrev pub passes : List NetEdge → ℕ → Bool
passes path n = list_any (λ e. e.net == n) path
