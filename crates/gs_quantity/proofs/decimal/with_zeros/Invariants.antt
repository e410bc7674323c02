use Rattle.std.proofs.Common.{◌≡◌, ◌*◌, ◌^◌, ◌<◌}
use Rattle.gs_quantity.specs.declared.limits.TheConstants.{NUMBER_LIMIT}
use Rattle.gs_quantity.proofs.decimal.with_zeros.Given as goal

abbrev pub invariant-loop-step : goal.invariant-loop-step
invariant-loop-step l = (l.longer ≡ l.magnitude * 10 ^ l._step) × (l.longer < NUMBER_LIMIT)
