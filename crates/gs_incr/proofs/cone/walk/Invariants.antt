use Rattle.std.proofs.Common.{◌≡◌, ◌+◌, ◌-◌, length}
use Rattle.gs_design.specs.Timing.{timing_of}
use Rattle.gs_incr.specs.Laid.{times_over}
use Rattle.gs_incr.specs.Walk.{IsWalk}
use Rattle.gs_move.specs.Moves.{after}
use Rattle.gs_incr.proofs.cone.walk.Given as goal

abbrev pub invariant-loop-rank : goal.invariant-loop-rank
invariant-loop-rank g l = record {
  laid : length l.work.laid ≡ length l.initial.work.laid;
  cost : l.steps ≡ l.initial.steps + length l.work.seen.items;
  walk : IsWalk l.design l.mv l.timing (timing_of l.design (after l.sizes l.mv)) (times_over l.timing l.work.laid) l.work.queue l.work.seen.items l.next;
}

abbrev pub decreases-loop-rank : goal.decreases-loop-rank
decreases-loop-rank g l = length l.design.nets - l.next
