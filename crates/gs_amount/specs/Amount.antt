-- Numbers that may not be negative, and the limit of all numbers that are read.

use Rattle.std.specs.Prelude.{ℕ, List, Option, None, Some, Result, Ok, Err, ℤ, pos, negsuc, ◌≤ℤ◌, ◌<ℤ◌, int_lt, if◌then◌else◌}
use Rattle.gs_quantity.specs.Decimal.{read_of}
use Rattle.gs_quantity.specs.declared.micro.NumErr.{NumErr}

-- what was read, where it is a number that isn't negative
abbrev pub unless_negative : Result ℤ NumErr → Option ℤ
unless_negative (Ok m) = if int_lt m (pos 0) then None else Some m
unless_negative (Err e) = None

-- what was read, where it is a number
abbrev pub where_read : Result ℤ NumErr → Option ℤ
where_read (Ok m) = Some m
where_read (Err e) = None

-- the millionths that the bytes write, times 10 ^ tens, rounded once; none where they are no decimal, or the rounded number is
-- negative, or is 2^40 millionths or more
abbrev pub amount_of : (bytes : List ℕ) → (tens : ℕ) → Option ℤ
amount_of bytes tens = unless_negative (read_of bytes tens)

-- the same of numbers that may be negative
abbrev pub number_of : (bytes : List ℕ) → (tens : ℕ) → Option ℤ
number_of bytes tens = where_read (read_of bytes tens)

-- a magnitude below 2^40 millionths
abbrev pub IsLimited : ℤ → Type 0
IsLimited m = (negsuc 1099511627775 <ℤ m) × (m <ℤ pos 1099511627776)

-- a number of millionths that isn't negative and is below 2^40
abbrev pub IsAmount : ℤ → Type 0
IsAmount m = (pos 0 ≤ℤ m) × (m <ℤ pos 1099511627776)
