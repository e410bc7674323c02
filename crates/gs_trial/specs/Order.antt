-- The order of limits by number, and the earlier of two.

use Rattle.std.specs.Prelude.{ℕ, ◌+◌, length, nat_lt, Option, None, Some, if◌then◌else◌}
use Rattle.gs_design.specs.declared.design.Design.{Design}
use Rattle.gs_design.specs.declared.limit.Limit.{Limit}
use Rattle.gs_design.specs.declared.limit.Limit.TheVariants.{Setup, Slew, Load, Area}

-- setup by endpoint, then slew by net, then load by net
abbrev pub limit_rank : Design → Limit → ℕ
limit_rank d (Setup e) = e
limit_rank d (Slew n) = length d.ends + n
limit_rank d (Load n) = length d.ends + length d.nets + n
limit_rank d Area = length d.ends + length d.nets + length d.nets

-- the earlier of two limits, where they are given
abbrev pub earlier : Design → Option Limit → Option Limit → Option Limit
earlier d None b = b
earlier d (Some a) None = Some a
earlier d (Some a) (Some b) = if nat_lt (limit_rank d b) (limit_rank d a) then Some b else Some a
