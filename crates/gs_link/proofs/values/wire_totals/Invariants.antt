use Rattle.std.proofs.Common.{◌≡◌, map, take}
use Rattle.gs_link.proofs.values.wire_totals.Given as goal

abbrev pub invariant-loop-wire : goal.invariant-loop-wire
invariant-loop-wire l = l.totals.items ≡ map (λ w. w.total) (take l.wire-index l.wires)
