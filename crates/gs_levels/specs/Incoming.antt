-- The edges into each node, found without copying an edge.
use Rattle.std.specs.Prelude.{◌≡◌, ◌≢◌, ◌<◌, ◌≤◌, ◌-◌, ℕ, List, length, slice_index}
use Rattle.gs_levels.specs.declared.edges.Edge.{Edge}
use Rattle.gs_levels.specs.Graph.{edge_at}

-- the first p edges are the shortest front of the first k edges that has all of those into n
pub record IsShortestFront (edges : List Edge) (k n p : ℕ) : Type 0 where
  pub within : p ≤ k
  pub none_past : (i : ℕ) → p ≤ i → i < k → (edge_at edges i).to ≢ n
  pub last : 0 < p → (edge_at edges (p - 1)).to ≡ n

-- of each node the shortest front with all edges into it, and of each edge the shortest front of those before it with all
-- edges into the same node
pub record IsIncoming (nodes : ℕ) (edges : List Edge) (all before : List ℕ) : Type 0 where
  pub each_node : length all ≡ nodes
  pub each_edge : length before ≡ length edges
  pub all_in : (n : ℕ) → n < nodes → IsShortestFront edges (length edges) n (slice_index all n)
  pub before_in : (i : ℕ) → i < length edges → IsShortestFront edges i (edge_at edges i).to (slice_index before i)
