use Rattle.std.proofs.Common.{heap_items}
use Rattle.gs_incr.proofs.QueueLaws.{has_pushed}
use Rattle.gs_incr.proofs.queue.push.Goals as goal

pub returns-clause-put : goal.returns-clause-put
returns-clause-put c = has_pushed (record { 0 = c.args.rank }) (heap_items c.args.heap.now) (heap_items c.push.new.self) c.in_ok-push.ensures.permutation
