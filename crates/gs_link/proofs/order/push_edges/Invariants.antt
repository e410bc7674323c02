use Rattle.std.proofs.Common.{◌≡◌, ◌++◌, map, take}
use Rattle.gs_link.proofs.order.push_edges.Given as goal

abbrev pub invariant-loop-i : goal.invariant-loop-i
invariant-loop-i l = l.edges.items ≡ l.initial.edges.items ++ map (λ m. record { from = m; to = l.to }) (take l.i l.nets)
