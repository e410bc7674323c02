use Rattle.std.proofs.Common.{◌≡◌}
use Rattle.gs_alternatives.proofs.Ranks.{entries_to}
use Rattle.gs_alternatives.proofs.rank.rank.Given as goal

abbrev pub invariant-loop-number : goal.invariant-loop-number
invariant-loop-number l = l.map.entries ≡ entries_to l.cells l.number
