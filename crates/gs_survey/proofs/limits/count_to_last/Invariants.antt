use Rattle.std.proofs.Common.{ℕ, ◌<◌, ◌≤◌, get_or}
use Rattle.gs_survey.proofs.limits.count_to_last.Given as goal

abbrev pub invariant-loop-i : goal.invariant-loop-i
invariant-loop-i l = record {
  below : (k : ℕ) → k < l.i → get_or l.numbers k 0 < l.count;
  within : l.count ≤ l.limit;
}
