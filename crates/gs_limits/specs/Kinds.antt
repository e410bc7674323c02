-- The limits of a design, one kind after another.

use Rattle.std.specs.Prelude.{ℕ, Bool, true, false, List, map, length, Option, None, if◌then◌else◌}
use Rattle.std.specs.List.{range_with_len}
use Rattle.gs_design.specs.Limits.{is_driven_by_inst, over_of, violation_at}
use Rattle.gs_design.specs.declared.design.Design.{Design}
use Rattle.gs_design.specs.declared.limit.Limit.{Limit}
use Rattle.gs_design.specs.declared.limit.Limit.TheVariants.{Setup, Slew, Load, Area}
use Rattle.gs_design.specs.declared.limit.Violation.{Violation}
use Rattle.gs_design.specs.declared.time.NetTime.{NetTime}
use Rattle.gs_limits.specs.declared.kind.Kind.{Kind}
use Rattle.gs_limits.specs.declared.kind.Kind.TheVariants.{Setups, Slews, Loads}

abbrev pub limit_of : Kind → ℕ → Limit
limit_of Setups k = Setup k
limit_of Slews k = Slew k
limit_of Loads k = Load k

-- how many numbers a kind has
abbrev pub kind_count : Design → Kind → ℕ
kind_count d Setups = length d.ends
kind_count d Slews = length d.nets
kind_count d Loads = length d.nets

-- the limits of a kind with the numbers below a count
abbrev pub of_kind : Kind → ℕ → List Limit
of_kind k count = map (limit_of k) (range_with_len 0 count)

-- a load is limited where an instance drives the net
abbrev pub stands : Design → Limit → Bool
stands d (Setup e) = true
stands d (Slew n) = true
stands d (Load n) = is_driven_by_inst d n
stands d Area = false

-- by how much a limit that stands is exceeded
abbrev pub over_if : Design → List NetTime → Limit → ℕ
over_if d t l = if stands d l then over_of d t l else 0

-- the violation of a limit that stands
abbrev pub violation_if : Design → List NetTime → Limit → Option Violation
violation_if d t l = if stands d l then violation_at d t l else None
