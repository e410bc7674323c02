use Rattle.std.proofs.Common.{◌≡◌, ℕ, ◌<◌, slice_index_or}
use Rattle.gs_lagrange.specs.Flow.{no_flow}
use Rattle.gs_lagrange.proofs.flow.Flows.clear.Given as goal

abbrev pub invariant-loop-flow : goal.invariant-loop-flow
invariant-loop-flow l = (k : ℕ) → k < l.flow-index → slice_index_or l.flow-items k no_flow ≡ no_flow
