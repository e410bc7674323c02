use Rattle.std.proofs.Common.{◌≡◌, ◌≤◌, length}
use Rattle.gs_lagrange.specs.Carry.{AreCarried}
use Rattle.gs_lagrange.proofs.weigh.follow.Given as goal

abbrev pub decreases-loop-place : goal.decreases-loop-place
decreases-loop-place l = l.place

abbrev pub invariant-loop-place : goal.invariant-loop-place
invariant-loop-place l = record {
  as_many : length l.flows ≡ length l.design.nets;
  carried : AreCarried l.design l.sizes l.timing l.fn.multipliers l.place l.flows;
  in_range : l.place ≤ length l.design.nets;
}
