-- The parts of the linked design that are built. No public clause names this.

use Rattle.std.specs.Prelude.{ℕ, ◌≡◌, ◌≢◌, List, length, map, slice_index}
use Rattle.std.specs.List.{range_with_len}
use Rattle.gs_design.specs.declared.cell.Cell.{Cell}
use Rattle.gs_levels.specs.Levels.{IsCycle}
use Rattle.gs_levels.specs.declared.edges.Edge.{Edge}
use Rattle.gs_link.specs.Built.{AreGiven}
use Rattle.gs_link.specs.Linked.{IsByLevel, edges_of, linked_ends, linked_insts, linked_nets, ranks_of}
use Rattle.gs_survey.specs.Numbers.{net_name}
use Rattle.gs_survey.specs.Uses.{new_number, used_nets}
use Rattle.gs_survey.specs.declared.error.LinkErr.{LinkErr}
use Rattle.gs_survey.specs.declared.error.LinkErr.TheVariants as errors
use Rattle.gs_link.specs.declared.pieces.Numbering.{Numbering}
use Rattle.gs_link.specs.declared.pieces.Pieces.{Pieces}
use Rattle.gs_sdc.specs.Terms.{Terms}
use Rattle.gs_spef.specs.declared.wires.Wire.{Wire}
use Rattle.gs_verilog.specs.Circuit.{Circuit}

-- the nets that are kept, the new number of each net, and what is given for it
pub record IsNumbering (cells : List Cell) (c : Circuit) (w : List Wire) (k : Terms) (n : Numbering) : Type 0 where
  pub numbers : n.numbers ≡ map (new_number cells c) (range_with_len 0 (length c.nets))
  pub used : n.used ≡ used_nets cells c
  pub values : AreGiven cells c w k n.values

pub record ArePieces (cells : List Cell) (c : Circuit) (w : List Wire) (k : Terms) (p : Pieces) : Type 0 where
  pub insts : p.insts ≡ linked_insts cells c
  pub nets : p.nets ≡ linked_nets cells c w k
  pub ends : p.ends ≡ linked_ends cells c k
  pub order : IsByLevel (length (used_nets cells c)) (edges_of cells (linked_insts cells c)) p.order
  pub ranks : p.ranks ≡ ranks_of p.order

-- a refusal of a cycle of this graph, whose nodes are these nets
pub record IsLoopOf (nets : List (List ℕ)) (used : List ℕ) (edges : List Edge) (e : LinkErr) : Type 0 where
  pub cycle : List ℕ
  pub is_cycle : IsCycle edges cycle
  pub is : e ≡ errors.Loop (map (λ n. net_name nets (slice_index used n)) cycle)

abbrev pub IsLoopErr : (nets : List (List ℕ)) → (used : List ℕ) → List Edge → LinkErr → Type 0
IsLoopErr nets used edges e = e ≢ errors.Mem → IsLoopOf nets used edges e
