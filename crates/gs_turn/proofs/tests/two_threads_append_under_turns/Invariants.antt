use Rattle.std.proofs.Common.{◌≤◌}
use Rattle.gs_turn.proofs.tests.two_threads_append_under_turns.Given as goal

abbrev pub invariant-loop-row : goal.invariant-loop-row
invariant-loop-row g l = (l.firsts ≤ l.row-index) × (l.seconds ≤ l.row-index)
