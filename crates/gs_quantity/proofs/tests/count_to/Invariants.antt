use Rattle.std.proofs.Common.{◌≡◌}
use Rattle.gs_quantity.proofs.tests.count_to.Given as goal

abbrev pub invariant-loop-step : goal.invariant-loop-step
invariant-loop-step g l = l.steps ≡ l._step
