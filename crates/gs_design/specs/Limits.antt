-- The limits of a design: what is held, the bound, and which are met.

use Rattle.std.specs.Prelude.{ℕ, ◌≡◌, ◌<◌, ◌++◌, ◌∷◌, [], Bool, true, false, not, List, map, filter, filter_map, length, sum_by, Option, None, Some, unwrap_or, ℤ, pos, ◌-ℤ◌, nat_abs, int_lt, if◌then◌else◌}
use Rattle.std.specs.Int.{int_max}
use Rattle.std.specs.List.{range_with_len}
use Rattle.gs_design.specs.Ends.{end_at, ends_at}
use Rattle.gs_design.specs.Nets.{net_at}
use Rattle.gs_design.specs.Times.{time_at}
use Rattle.gs_design.specs.declared.design.Design.{Design}
use Rattle.gs_design.specs.declared.limit.Limit.{Limit}
use Rattle.gs_design.specs.declared.limit.Limit.TheVariants.{Setup, Slew, Load, Area}
use Rattle.gs_design.specs.declared.limit.Violation.{Violation}
use Rattle.gs_design.specs.declared.sink.Driver.{Driver}
use Rattle.gs_design.specs.declared.sink.Driver.TheVariants.{Port, Inst}
use Rattle.gs_design.specs.declared.time.NetTime.{NetTime}

abbrev pub is_inst : Driver → Bool
is_inst (Port delay cell) = false
is_inst (Inst g) = true

abbrev pub is_driven_by_inst : Design → ℕ → Bool
is_driven_by_inst d n = is_inst (net_at d.nets n).driver

-- All limits: setup by endpoint, then slew by net, then load by net that an instance drives.
abbrev pub limits : Design → List Limit
limits d =
    map (λ e. Setup e) (range_with_len 0 (length d.ends))
    ++ map (λ n. Slew n) (range_with_len 0 (length d.nets))
    ++ map (λ n. Load n) (filter (is_driven_by_inst d) (range_with_len 0 (length d.nets)))

-- the limits of one net, in the same order
abbrev pub limits_at : Design → ℕ → List Limit
limits_at d n = map (λ e. Setup e) (ends_at d.ends n) ++ Slew n ∷ (if is_driven_by_inst d n then Load n ∷ [] else [])

-- A limit of the design: of one of its endpoints, of one of its nets, or of one of its nets that an instance drives. The area stands for
-- no limit of any design yet.
abbrev pub IsLimitOf : Design → Limit → Type 0
IsLimitOf d (Setup e) = e < length d.ends
IsLimitOf d (Slew n) = n < length d.nets
IsLimitOf d (Load n) = (n < length d.nets) × (is_driven_by_inst d n ≡ true)
IsLimitOf d Area = ⊥

-- The net that a limit is about. Here and below the answer at the area stands for nothing: no design has that limit.
abbrev pub limit_net : Design → Limit → ℕ
limit_net d (Setup e) = (end_at d.ends e).net
limit_net d (Slew n) = n
limit_net d (Load n) = n
limit_net d Area = 0

-- what the record of its net holds against a limit: the greater arrival, the greater slew, or the load
abbrev pub held_in : NetTime → Limit → ℤ
held_in r (Setup e) = int_max r.rise.arrival r.fall.arrival
held_in r (Slew n) = int_max r.rise.slew r.fall.slew
held_in r (Load n) = r.load
held_in r Area = pos 0

-- the bound of a limit, where one is given: the endpoint's, or that in the record of its net
abbrev pub bound_in : Design → NetTime → Limit → Option ℤ
bound_in d r (Setup e) = Some (end_at d.ends e).bound
bound_in d r (Slew n) = r.slew_bound
bound_in d r (Load n) = r.load_bound
bound_in d r Area = None

-- a limit is met where what is held is at most the bound, or no bound is given
abbrev pub is_within : ℤ → Option ℤ → Bool
is_within held None = true
is_within held (Some bound) = not (int_lt bound held)

-- by how much what is held is above the bound
abbrev pub excess_over : ℤ → Option ℤ → ℕ
excess_over held None = 0
excess_over held (Some bound) = if int_lt bound held then nat_abs (held -ℤ bound) else 0

-- the same of a limit and the record of its net
abbrev pub is_met_in : Design → NetTime → Limit → Bool
is_met_in d r l = is_within (held_in r l) (bound_in d r l)

abbrev pub over_in : Design → NetTime → Limit → ℕ
over_in d r l = excess_over (held_in r l) (bound_in d r l)

-- and in a timing of the whole design
abbrev pub held_of : Design → List NetTime → Limit → ℤ
held_of d t l = held_in (time_at t (limit_net d l)) l

abbrev pub bound_of : Design → List NetTime → Limit → Option ℤ
bound_of d t l = bound_in d (time_at t (limit_net d l)) l

abbrev pub is_met : Design → List NetTime → Limit → Bool
is_met d t l = is_met_in d (time_at t (limit_net d l)) l

abbrev pub over_of : Design → List NetTime → Limit → ℕ
over_of d t l = over_in d (time_at t (limit_net d l)) l

-- the sum over all limits
abbrev pub excess_of : Design → List NetTime → ℕ
excess_of d t = sum_by (over_of d t) (limits d)

-- a limit that isn't met, with what is held and the bound
abbrev pub violation_at : Design → List NetTime → Limit → Option Violation
violation_at d t l =
    if is_met d t l then None else Some (record { limit = l; held = held_of d t l; bound = unwrap_or (bound_of d t l) (pos 0) })

-- all limits that aren't met, in the order of the limits
abbrev pub violations_of : Design → List NetTime → List Violation
violations_of d t = filter_map (violation_at d t) (limits d)
