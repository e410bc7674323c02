-- The ranges of quantities, in millionths.

use Rattle.std.specs.Prelude.{◌≡◌, Option, Some, ℤ, pos, ◌≤ℤ◌, ◌<ℤ◌}

-- not negative, and below 2 ^ 40: leakage, area, bounds, wire capacitances, transitions
abbrev pub IsAmount : ℤ → Type 0
IsAmount z = (pos 0 ≤ℤ z) × (z <ℤ pos 1099511627776)

-- not negative, and below 2 ^ 34: the capacitance of a pin
abbrev pub IsCapacitance : ℤ → Type 0
IsCapacitance z = (pos 0 ≤ℤ z) × (z <ℤ pos 17179869184)

-- an amount, where it is given
abbrev pub IsAmountIfGiven : Option ℤ → Type 0
IsAmountIfGiven o = (z : ℤ) → o ≡ Some z → IsAmount z
