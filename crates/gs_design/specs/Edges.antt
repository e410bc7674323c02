-- The edges that a cell makes at its output: one candidate for each arc and each edge at its input that the arc passes, and of these
-- the greatest arrival and the greatest slew.

use Rattle.std.specs.Prelude.{ℕ, Bool, true, false, List, [], ◌∷◌, map, flat_map, Option, None, Some, unwrap_or, ℤ, pos, ◌+ℤ◌, if◌then◌else◌}
use Rattle.std.specs.Int.{int_max}
use Rattle.gs_quantity.specs.Lookup.{look_of}
use Rattle.gs_quantity.specs.declared.lookup.table.Table.{Table}
use Rattle.gs_design.specs.Times.{edge_at_zero}
use Rattle.gs_design.specs.declared.arc.Sense.{Sense}
use Rattle.gs_design.specs.declared.arc.Sense.TheVariants.{Same, Other, Both, Launch}
use Rattle.gs_design.specs.declared.arc.TimingArc.{TimingArc}
use Rattle.gs_design.specs.declared.time.Edge.{Edge}

-- the rise and the fall of a net
pub record Edges : Type 0 where
  pub rise : Edge
  pub fall : Edge

-- one of the two: the rise, or else the fall
abbrev pub edge_of : Bool → Edges → Edge
edge_of true e = e.rise
edge_of false e = e.fall

-- The edges at an arc's input that make an edge at its output, the rise or else the fall. A flip-flop's output follows the rising edge
-- of the clock, which comes at time 0 without a slew, whatever is at its input.
abbrev pub allowed : Sense → (rise : Bool) → Edges → List Edge
allowed Same rise input = edge_of rise input ∷ []
allowed Other true input = input.fall ∷ []
allowed Other false input = input.rise ∷ []
allowed Both rise input = input.rise ∷ input.fall ∷ []
allowed Launch rise input = edge_at_zero ∷ []

-- the value of a table at a slew and a load
abbrev pub delay_in : Table → (slew load : ℤ) → ℤ
delay_in t slew load = look_of t.xs t.ys t.zs slew load true

abbrev pub slew_in : Table → (slew load : ℤ) → ℤ
slew_in t slew load = look_of t.xs t.ys t.zs slew load false

-- the edge at an arc's output that an edge at its input makes, at this load
abbrev pub through : TimingArc → (load : ℤ) → (rise : Bool) → Edge → Edge
through a load true e = record { arrival = e.arrival +ℤ delay_in a.cell_rise e.slew load; slew = slew_in a.rise_transition e.slew load }
through a load false e = record { arrival = e.arrival +ℤ delay_in a.cell_fall e.slew load; slew = slew_in a.fall_transition e.slew load }

-- the candidates of one arc, where `input` gives the edges at each input pin
abbrev pub arc_candidates : (load : ℤ) → (rise : Bool) → (input : ℕ → Edges) → TimingArc → List Edge
arc_candidates load rise input a = map (through a load rise) (allowed a.sense rise (input a.pin))

-- the candidates of all arcs
abbrev pub candidates : (load : ℤ) → (rise : Bool) → (input : ℕ → Edges) → List TimingArc → List Edge
candidates load rise input arcs = flat_map (arc_candidates load rise input) arcs

-- the greater arrival and the greater slew
abbrev pub worse : Edge → Edge → Edge
worse a b = record { arrival = int_max a.arrival b.arrival; slew = int_max a.slew b.slew }

-- the worst of an edge, where there is one, and of a list of edges
abbrev pub worst : Option Edge → List Edge → Option Edge
worst best [] = best
worst None (e ∷ es) = worst (Some e) es
worst (Some b) (e ∷ es) = worst (Some (worse b e)) es

-- the edges at the output of a cell with these arcs
abbrev pub output_edges : (load : ℤ) → (input : ℕ → Edges) → List TimingArc → Edges
output_edges load input arcs = record {
  rise = unwrap_or (worst None (candidates load true input arcs)) edge_at_zero;
  fall = unwrap_or (worst None (candidates load false input arcs)) edge_at_zero;
}
