use Rattle.std.proofs.Common.{◌≡◌, ◌≤◌}
use Rattle.gs_move.specs.Moves.{alt_count}
use Rattle.gs_sweep.proofs.SweepLaws.{fair_below}
use Rattle.gs_sweep.proofs.insts.fair_of_inst.Given as goal

abbrev pub invariant-loop-place : goal.invariant-loop-place
invariant-loop-place g l = record {
  found : l.found.items ≡ fair_below (g.J.Judge.answers l.swept.judge.now) l.swept.design.now l.swept.sizes.now l.inst l.place;
  in_range : l.place ≤ alt_count l.swept.design.now l.inst;
  nets : l.scratch.nets ≡ l.fn.scratch.nets;
}
