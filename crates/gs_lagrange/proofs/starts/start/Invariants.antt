use Rattle.std.proofs.Common.{◌≡◌, length}
use Rattle.gs_lagrange.specs.Kept.{IsKept, IsScored}
use Rattle.gs_lagrange.specs.Start.{start_of, state_after}
use Rattle.gs_lagrange.proofs.starts.start.Given as goal

abbrev pub invariant-loop : goal.invariant-loop
invariant-loop g l = record {
  state : l.state ≡ state_after l.design l.counter;
  kept : IsKept l.design l.state;
  best : l.best.sizes ≡ start_of l.design l.counter;
  scored : IsScored l.design l.best;
  as_many : length l.flows ≡ length l.design.nets;
}
