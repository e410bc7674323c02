-- What the levels of a graph are, the order of its nodes, and a cycle.
use Rattle.std.specs.Prelude.{◌≡◌, ◌≢◌, ◌<◌, ◌≤◌, ◌+◌, ◌-◌, ◌⊎◌, ◌==◌, if◌then◌else◌, ℕ, List, [], ◌∷◌, length, max, slice_index, IsPermutation}
use Rattle.std.specs.List.{range_with_len}
use Rattle.gs_levels.specs.declared.edges.Edge.{Edge}
use Rattle.gs_levels.specs.Graph.{HasEdge}

-- one more than the greatest level of a node with an edge to n, or 0 where there is none
abbrev pub above : List Edge → List ℕ → ℕ → ℕ
above [] level n = 0
above (e ∷ edges) level n =
    if e.to == n then max (slice_index level e.from + 1) (above edges level n) else above edges level n

-- each node has its level
pub record IsLeveled (nodes : ℕ) (edges : List Edge) (level : List ℕ) : Type 0 where
  pub each : length level ≡ nodes
  pub levels : (n : ℕ) → n < nodes → slice_index level n ≡ above edges level n

-- node a comes before node b, or is b: by level, and then by number
abbrev pub ComesFirst : List ℕ → ℕ → ℕ → Type 0
ComesFirst level a b =
    (slice_index level a < slice_index level b) ⊎ ((slice_index level a ≡ slice_index level b) × (a ≤ b))

-- each node once, in the order of levels and then of numbers
pub record IsOrder (level order : List ℕ) : Type 0 where
  pub once : IsPermutation (range_with_len 0 (length level)) order
  pub rising : (k : ℕ) → k + 1 < length order → ComesFirst level (slice_index order k) (slice_index order (k + 1))

-- distinct nodes, the least first, each with an edge to the next and the last with an edge to the first
pub record IsCycle (edges : List Edge) (cycle : List ℕ) : Type 0 where
  pub some : 0 < length cycle
  pub distinct : (j k : ℕ) → j < k → k < length cycle → slice_index cycle j ≢ slice_index cycle k
  pub least : (k : ℕ) → k < length cycle → slice_index cycle 0 ≤ slice_index cycle k
  pub next : (k : ℕ) → k + 1 < length cycle → HasEdge edges (slice_index cycle k) (slice_index cycle (k + 1))
  pub closes : HasEdge edges (slice_index cycle (length cycle - 1)) (slice_index cycle 0)

-- the nodes have levels, and an order by them
pub record HasLevels (nodes : ℕ) (edges : List Edge) : Type 0 where
  pub level : List ℕ
  pub order : List ℕ
  pub leveled : IsLeveled nodes edges level
  pub ordered : IsOrder level order

-- there is a cycle
pub record HasCycle (edges : List Edge) : Type 0 where
  pub cycle : List ℕ
  pub found : IsCycle edges cycle
