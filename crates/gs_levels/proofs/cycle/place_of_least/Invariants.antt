use Rattle.std.proofs.Common.{◌<◌, ◌≤◌, ℕ, length, slice_index}
use Rattle.gs_levels.proofs.cycle.place_of_least.Given as goal

-- no earlier number is less
abbrev pub invariant-loop-place : goal.invariant-loop-place
invariant-loop-place l = record {
  inside : l.least < length l.nodes;
  least : (k : ℕ) → k < l.place → slice_index l.nodes l.least ≤ slice_index l.nodes k;
}
