-- Quantities of 64 bits, so that no sum over a design goes past 128 bits.

use Rattle.std.specs.Prelude.{◌≡◌, ◌≤◌, Option, Some, ℤ, nat_abs}
use Rattle.gs_design.specs.declared.time.NetTime.{NetTime}

-- a magnitude of at most 2 ^ 63
abbrev pub IsBounded : ℤ → Type 0
IsBounded z = nat_abs z ≤ 9223372036854775808

abbrev pub IsBoundedIfGiven : Option ℤ → Type 0
IsBoundedIfGiven o = (z : ℤ) → o ≡ Some z → IsBounded z

-- of what a record holds against limits, and of its bounds
pub record IsBoundedRecord (r : NetTime) : Type 0 where
  pub load : IsBounded r.load
  pub rise_arrival : IsBounded r.rise.arrival
  pub rise_slew : IsBounded r.rise.slew
  pub fall_arrival : IsBounded r.fall.arrival
  pub fall_slew : IsBounded r.fall.slew
  pub load_bound : IsBoundedIfGiven r.load_bound
  pub slew_bound : IsBoundedIfGiven r.slew_bound
