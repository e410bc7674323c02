use Rattle.std.proofs.Common.{◌≡◌, ◌||◌, ℕ, take}
use Rattle.std.specs.List.{list_any}
use Rattle.gs_incr.specs.Queue.{has}
use Rattle.gs_incr.specs.Walk.{has_rank}
use Rattle.gs_incr.proofs.readers.put_inputs.Given as goal

abbrev pub invariant-loop-net : goal.invariant-loop-net
invariant-loop-net l = (q : ℕ) → has l.queue q ≡ (has l.initial.queue q || list_any (has_rank l.design q) (take l.net-index l.net-items))
