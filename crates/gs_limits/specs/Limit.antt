-- The limits of which a call may ask.

use Rattle.std.specs.Prelude.{ℕ, ◌<◌, length}
use Rattle.gs_design.specs.declared.design.Design.{Design}
use Rattle.gs_design.specs.declared.limit.Limit.{Limit}
use Rattle.gs_design.specs.declared.limit.Limit.TheVariants.{Setup, Slew, Load, Area}

-- a limit's number is that of an endpoint, or of a net
abbrev pub IsPlaced : Design → Limit → Type 0
IsPlaced d (Setup e) = e < length d.ends
IsPlaced d (Slew n) = n < length d.nets
IsPlaced d (Load n) = n < length d.nets
IsPlaced d Area = ⊥
