use Rattle.std.proofs.Common.{heap_items}
use Rattle.gs_incr.proofs.QueueLaws.{first_rank, none_below}
use Rattle.gs_incr.proofs.queue.least.Goals as goal

pub returns-in-Some-clause-least : goal.returns-in-Some-clause-least
returns-in-Some-clause-least c = none_below c.in-Some.rank.now (heap_items c.args.heap.now) (c.in-Some.ensures.greatest c.requires)

pub returns-in-Some-clause-first : goal.returns-in-Some-clause-first
returns-in-Some-clause-first c = first_rank c.in-Some.rank.now (heap_items c.args.heap.now) c.in-Some.ensures.item.3.0 c.in-Some.ensures.lookup
