use Rattle.std.proofs.Common.{heap_items, arith}
use Rattle.gs_incr.proofs.QueueLaws.{has_popped}
use Rattle.gs_incr.proofs.queue.drop_first.Goals as goal

pub returns-clause-same : goal.returns-clause-same
returns-clause-same c = λ q lt.
    let is = c.requires.first.first c.in-Some.«_first» c.in-Some.ensures.top in
    has_popped c.in-Some.«_first» (heap_items c.args.heap.now) (heap_items c.pop.new.self) c.in-Some.ensures.permutation q (omega (arith, is, lt))
