-- What a change of a net's timing does to the limits of that net.

use Rattle.std.specs.Prelude.{ℕ, ◌+◌, Bool, not, ◌&&◌, List, [], ◌∷◌, sum_by, Option, None, Some, if◌then◌else◌}
use Rattle.gs_design.specs.Limits.{is_met_in, limits_at, over_in}
use Rattle.gs_design.specs.declared.design.Design.{Design}
use Rattle.gs_design.specs.declared.limit.Limit.{Limit}
use Rattle.gs_design.specs.declared.time.NetTime.{NetTime}
use Rattle.gs_limits.specs.declared.outcome.NetOutcome.{NetOutcome}

-- a limit is broken where the old record meets it and the new one doesn't
abbrev pub is_broken : Design → (old new : NetTime) → Limit → Bool
is_broken d old new l = is_met_in d old l && not (is_met_in d new l)

-- the first limit of a list that is broken
abbrev pub first_broken : Design → (old new : NetTime) → List Limit → Option Limit
first_broken d old new [] = None
first_broken d old new (l ∷ ls) = if is_broken d old new l then Some l else first_broken d old new ls

-- of a list of limits: the first that is broken, and the sums of what is over
abbrev pub outcome_over : Design → (old new : NetTime) → List Limit → NetOutcome
outcome_over d old new ls = record {
  broken = first_broken d old new ls;
  over_old = sum_by (over_in d old) ls;
  over_new = sum_by (over_in d new) ls;
}

-- of the limits of one net
abbrev pub outcome_of : Design → ℕ → (old new : NetTime) → NetOutcome
outcome_of d n old new = outcome_over d old new (limits_at d n)

-- one limit more: the first broken one stays, and the sums grow
abbrev pub first_or : Design → (old new : NetTime) → Option Limit → Limit → Option Limit
first_or d old new (Some first) l = Some first
first_or d old new None l = if is_broken d old new l then Some l else None

abbrev pub with_limit : Design → (old new : NetTime) → NetOutcome → Limit → NetOutcome
with_limit d old new o l = record {
  broken = first_or d old new o.broken l;
  over_old = o.over_old + over_in d old l;
  over_new = o.over_new + over_in d new l;
}
