use Rattle.std.proofs.Common.{◌≡◌, ◌||◌, ℕ, take}
use Rattle.std.specs.List.{list_any}
use Rattle.gs_incr.specs.Queue.{has}
use Rattle.gs_incr.specs.Walk.{is_reader}
use Rattle.gs_incr.proofs.readers.put_readers.Given as goal

abbrev pub invariant-loop-sink : goal.invariant-loop-sink
invariant-loop-sink l = (q : ℕ) → has l.queue q ≡ (has l.initial.queue q || list_any (is_reader l.design q) (take l.sink-index l.sink-items))
