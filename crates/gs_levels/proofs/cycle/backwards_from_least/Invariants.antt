use Rattle.std.proofs.Common.{◌≡◌, ◌<◌, ℕ, length, slice_index}
use Rattle.gs_levels.specs.Cycle.{back}
use Rattle.gs_levels.proofs.cycle.backwards_from_least.Given as goal

-- the nodes so far
abbrev pub invariant-loop-steps : goal.invariant-loop-steps
invariant-loop-steps l = record {
  many : length l.cycle.items ≡ l.steps;
  nodes : (k : ℕ) → k < l.steps → slice_index l.cycle.items k ≡ slice_index l.nodes (back l.least (length l.nodes) k);
}
