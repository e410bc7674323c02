use Rattle.std.proofs.Common.{◌≡◌, take}
use Rattle.gs_link.proofs.order.net_ids.Given as goal

abbrev pub invariant-loop-i : goal.invariant-loop-i
invariant-loop-i l = l.ids.items ≡ take l.i l.numbers
