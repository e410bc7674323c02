use Rattle.std.proofs.Common.{◌≡◌, ◌≤◌, length}
use Rattle.gs_lagrange.specs.Carry.{AreBegun}
use Rattle.gs_lagrange.proofs.weigh.begin.Given as goal

abbrev pub invariant-loop-number : goal.invariant-loop-number
invariant-loop-number l = record {
  as_many : length l.flows ≡ length l.design.nets;
  begun : AreBegun l.design l.timing l.multipliers l.number l.flows;
  in_range : l.number ≤ length l.design.ends;
}
