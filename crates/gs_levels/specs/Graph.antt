-- Graphs as lists of edges.
use Rattle.std.specs.Prelude.{◌≡◌, ◌<◌, ℕ, List, length, slice_index_or}
use Rattle.gs_levels.specs.declared.edges.Edge.{Edge}

-- what stands for an edge past the end of a list
abbrev pub no_edge : Edge
no_edge = record { from = 0; to = 0 }

-- the edge at place i
abbrev pub edge_at : List Edge → ℕ → Edge
edge_at edges i = slice_index_or edges i no_edge

-- both ends of each edge are nodes, which are the numbers below the count of nodes
abbrev pub IsWithin : ℕ → List Edge → Type 0
IsWithin nodes edges = (i : ℕ) → i < length edges → ((edge_at edges i).from < nodes) × ((edge_at edges i).to < nodes)

-- an edge of the list leads from a to b
abbrev pub HasEdge : List Edge → ℕ → ℕ → Type 0
HasEdge edges a b = (i : ℕ) × (i < length edges) × (edge_at edges i ≡ record { from = a; to = b })
