use Rattle.std.proofs.Common.{◌≡◌, length}
use Rattle.gs_incr.proofs.laid.no_records.Given as goal

abbrev pub invariant-loop : goal.invariant-loop
invariant-loop l = length l.records.items ≡ l.counter
