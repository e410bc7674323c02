use Rattle.std.proofs.Common.{◌<◌, ℕ}
use Rattle.gs_levels.specs.Graph.{edge_at}
use Rattle.gs_levels.proofs.graph.is_within.Given as goal

-- the edges so far
abbrev pub invariant-loop-edge : goal.invariant-loop-edge
invariant-loop-edge l = (i : ℕ) → i < l.edge-index → ((edge_at l.edges i).from < l.nodes) × ((edge_at l.edges i).to < l.nodes)
