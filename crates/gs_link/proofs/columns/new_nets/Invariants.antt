use Rattle.std.proofs.Common.{◌≡◌, get_or, map, take}
use Rattle.gs_link.proofs.columns.new_nets.Given as goal

abbrev pub invariant-loop-i : goal.invariant-loop-i
invariant-loop-i l = l.ids.items ≡ map (λ n. get_or l.numbers n 0) (take l.i l.nets)
