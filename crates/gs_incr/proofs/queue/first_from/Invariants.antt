use Rattle.std.proofs.Common.{◌≡◌, ◌≤◌, ℕ, heap_items, heap_len}
use Rattle.gs_incr.specs.Queue.{IsLeastFirst, has, ranks_of}
use Rattle.gs_incr.proofs.queue.first_from.Given as goal

abbrev pub invariant-loop-rank : goal.invariant-loop-rank
invariant-loop-rank l = record {
  order : IsLeastFirst (heap_items l.heap);
  same : (q : ℕ) → l.bound ≤ q → has (ranks_of (heap_items l.heap)) q ≡ has (ranks_of (heap_items l.initial.heap)) q;
}

abbrev pub decreases-loop-rank : goal.decreases-loop-rank
decreases-loop-rank l = heap_len l.heap
