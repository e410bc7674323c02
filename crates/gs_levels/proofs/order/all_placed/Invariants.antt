use Rattle.std.proofs.Common.{◌≡◌, map}
use Rattle.std.specs.List.{range_with_len}
use Rattle.gs_levels.specs.Order.{placed_at}
use Rattle.gs_levels.proofs.order.all_placed.Given as goal

-- the nodes so far
abbrev pub invariant-loop-node : goal.invariant-loop-node
invariant-loop-node l = l.all.items ≡ map (placed_at l.level) (range_with_len 0 l.node)
