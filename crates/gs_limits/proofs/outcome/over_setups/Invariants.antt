use Rattle.std.proofs.Common.{◌≡◌, ◌*◌, ◌≤◌, map, take}
use Rattle.gs_design.specs.declared.limit.Limit.TheVariants.{Setup}
use Rattle.gs_limits.specs.Outcome.{outcome_over}
use Rattle.gs_limits.proofs.outcome.over_setups.Given as goal

abbrev pub invariant-loop-end : goal.invariant-loop-end
invariant-loop-end l =
    (l.outcome ≡ outcome_over l.design l.old l.new (map (λ e. Setup e) (take l.end-index l.end-items)))
    × (l.outcome.over_old ≤ l.end-index * 18446744073709551615) × (l.outcome.over_new ≤ l.end-index * 18446744073709551615)
