use Rattle.std.proofs.Common.{rules}
use Rattle.gs_shelf.proofs.TransferLaws.{came_more}
use Rattle.gs_shelf.proofs.transfer.fill_room.Goals as goal

pub loop-count-preserved : goal.loop-count-preserved
loop-count-preserved g c = record {
  within = search rules;
  came = came_more _ _ _ c.loop-count.room c.read.new.buf c.loop-count.count _ c.in_ok-came.came c.loop-count.invariant.within c.in_ok-came.ensures.bound.0 c.loop-count.invariant.came c.in_ok-came.ensures.bytes.0;
}
