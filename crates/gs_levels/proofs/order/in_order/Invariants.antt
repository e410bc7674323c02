use Rattle.std.proofs.Common.{◌≡◌, map, take}
use Rattle.gs_levels.specs.Order.{node_of}
use Rattle.gs_levels.proofs.order.in_order.Given as goal

-- the nodes so far
abbrev pub invariant-loop-place : goal.invariant-loop-place
invariant-loop-place l = l.order.items ≡ map node_of (take l.place-index l.place-items)
