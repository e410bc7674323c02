use Rattle.std.proofs.Common.{◌≡◌, map, take}
use Rattle.gs_link.proofs.values.port_values.Given as goal

abbrev pub invariant-loop-value : goal.invariant-loop-value
invariant-loop-value l = l.values.items ≡ map (λ v. v.value) (take l.value-index l.given)
