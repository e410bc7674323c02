use Rattle.std.proofs.Common.{◌≡◌, ◌<◌, ℕ, length, slice_index}
use Rattle.gs_levels.specs.Graph.{edge_at}
use Rattle.gs_levels.specs.Incoming.{IsShortestFront}
use Rattle.gs_levels.proofs.incoming.find_incoming.Given as goal

-- the fronts, as far as the edges have been read
abbrev pub invariant-loop-place : goal.invariant-loop-place
invariant-loop-place l = record {
  each_node : length l.all.items ≡ l.nodes;
  each_edge : length l.before.items ≡ l.place;
  all_in : (n : ℕ) → n < l.nodes → IsShortestFront l.edges l.place n (slice_index l.all.items n);
  before_in : (i : ℕ) → i < l.place → IsShortestFront l.edges i (edge_at l.edges i).to (slice_index l.before.items i);
}
