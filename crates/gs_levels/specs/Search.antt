-- What the search keeps from step to step.
use Rattle.std.specs.Prelude.{◌≡◌, ◌≢◌, ◌<◌, ◌≤◌, ◌+◌, ◌-◌, ◌⊎◌, ◌==◌, ℕ, Bool, true, false, List, length, slice_index, sum_by}
use Rattle.std.specs.List.{list_any}
use Rattle.gs_levels.specs.declared.edges.Edge.{Edge}
use Rattle.gs_levels.specs.declared.progress.Progress.{Progress}
use Rattle.gs_levels.specs.declared.progress.Progress.TheVariants.{Open, Done}
use Rattle.gs_levels.specs.declared.search.Step.{Step}
use Rattle.gs_levels.specs.declared.search.Step.TheVariants as steps
use Rattle.gs_levels.specs.Graph.{HasEdge, edge_at}
use Rattle.gs_levels.specs.Progress.{progress_at, is_fresh, is_open, done_one, steps_ahead}

abbrev pub has : List ℕ → ℕ → Bool
has xs n = list_any (λ x. x == n) xs

-- how many nodes are done
abbrev pub done_count : List Progress → ℕ
done_count progress = sum_by done_one progress

-- how many steps the search has ahead of it at most
abbrev pub work : ℕ → List Progress → ℕ
work edges progress = sum_by (steps_ahead edges) progress

-- level n is 0, or one more than that of a done node with an edge to n
abbrev pub IsReached : List Edge → List Progress → List ℕ → ℕ → Type 0
IsReached edges progress level n =
    (slice_index level n ≡ 0)
    ⊎ ((i : ℕ) × (i < length edges) × ((edge_at edges i).to ≡ n) × (progress_at progress (edge_at edges i).from ≡ Done)
    × (slice_index level n ≡ slice_index level (edge_at edges i).from + 1))

-- the edge that an open node waits for
abbrev pub awaited : List Edge → Progress → Edge
awaited edges p = edge_at edges (steps_ahead (length edges) p - 2)

pub record IsSearch (nodes : ℕ) (edges : List Edge) (progress : List Progress) (level stack : List ℕ) : Type 0 where
  pub each_progress : length progress ≡ nodes
  pub each_level : length level ≡ nodes
  -- an open node's next edge leads into it
  pub open_front : (n left : ℕ) → n < nodes → progress_at progress n ≡ Open left → left ≤ length edges
  pub open_edge : (n left : ℕ) → n < nodes → progress_at progress n ≡ Open left → 0 < left → (edge_at edges (left - 1)).to ≡ n
  -- each edge that was followed comes from a done node of a lower level
  pub followed : (n i : ℕ) → n < nodes → i < length edges → (edge_at edges i).to ≡ n → steps_ahead (length edges) (progress_at progress n) ≤ i + 1
      → (progress_at progress (edge_at edges i).from ≡ Done) × (slice_index level (edge_at edges i).from < slice_index level n)
  pub reached : (n : ℕ) → n < nodes → IsReached edges progress level n
  -- no level is above the count of done nodes
  pub low : (n : ℕ) → n < nodes → slice_index level n ≤ done_count progress
  pub low_done : (n : ℕ) → n < nodes → progress_at progress n ≡ Done → slice_index level n < done_count progress
  -- the stack has the open nodes, each once, and each waits for the next
  pub on_stack : (n : ℕ) → n < nodes → is_open (progress_at progress n) ≡ true → has stack n ≡ true
  pub stack_inside : (k : ℕ) → k < length stack → slice_index stack k < nodes
  pub stack_open : (k : ℕ) → k < length stack → is_open (progress_at progress (slice_index stack k)) ≡ true
  pub apart : (j k : ℕ) → j < k → k < length stack → slice_index stack j ≢ slice_index stack k
  pub waits : (k : ℕ) → k + 1 < length stack → (1 < steps_ahead (length edges) (progress_at progress (slice_index stack k)))
      × ((awaited edges (progress_at progress (slice_index stack k))).from ≡ slice_index stack (k + 1))

-- a node that was begun stays so
abbrev pub StaysBegun : List Progress → List Progress → Type 0
StaysBegun old new = (n : ℕ) → is_fresh (progress_at old n) ≡ false → is_fresh (progress_at new n) ≡ false

-- the first so many nodes are begun
abbrev pub AreBegun : ℕ → List Progress → Type 0
AreBegun count progress = (n : ℕ) → n < count → is_fresh (progress_at progress n) ≡ false

-- the node at this place of the stack has an edge to the last one
pub record Closes (edges : List Edge) (stack : List ℕ) (place : ℕ) : Type 0 where
  pub inside : place < length stack
  pub edge : HasEdge edges (slice_index stack place) (slice_index stack (length stack - 1))

-- the edge at this place is the next of the last node of the stack
pub record IsNext (edges : List Edge) (progress : List Progress) (stack : List ℕ) (place : ℕ) : Type 0 where
  pub inside : place < length edges
  pub last : progress_at progress (slice_index stack (length stack - 1)) ≡ Open (place + 1)

-- what a step may come to
abbrev pub ComesTo : List Edge → List ℕ → Step → Type 0
ComesTo edges stack steps.Onward = Unit {0}
ComesTo edges stack (steps.Closes place) = Closes edges stack place
