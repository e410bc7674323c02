-- Decimal numbers as Liberty, SPEF and SDC write them: an optional sign, digits with at most one point and at least one
-- digit, and an optional exponent of `e` or `E`, an optional sign and digits.
use Rattle.std.specs.Prelude.{ℕ, ◌≡◌, ◌+◌, ◌*◌, ◌^◌, ◌<◌, ◌≤◌, ◌==◌, MatchOption, Bool, true, false, ◌&&◌, ◌||◌, nat_lt, List, [], ◌++◌, length, drop, take_while, slice_index, Option, Some, None, Result, Ok, Err, ℤ, pos, neg_ℤ, if◌then◌else◌}
use Rattle.std.specs.Char.{is_ascii_digit}
use Rattle.std.specs.Str.{all_ascii_digits}
use Rattle.std.specs.Str.Parse.{digits_value, starts_with_minus, without_leading_sign}
use Rattle.gs_quantity.specs.declared.limits.TheConstants.{NUMBER_LIMIT}
use Rattle.gs_quantity.specs.declared.micro.NumErr.{NumErr}
use Rattle.gs_quantity.specs.declared.micro.NumErr.TheVariants.{NotNumber, OutOfRange}
use Rattle.gs_quantity.specs.Nearest.{nearest, IsNearest}

-- a decimal number taken apart: the digits before and behind the point, and those of the exponent (none without one)
pub record Decimal : Type 0 where
  pub negative : Bool
  pub whole : List ℕ
  pub part : List ℕ
  pub power_negative : Bool
  pub power : List ℕ

-- the bytes of a decimal's digits are digits
pub record AreDigits (whole part power : List ℕ) : Type 0 where
  pub of_whole : all_ascii_digits whole ≡ true
  pub of_part : all_ascii_digits part ≡ true
  pub of_power : all_ascii_digits power ≡ true

-- the digits at the front
abbrev pub digits_at : List ℕ → List ℕ
digits_at bytes = take_while is_ascii_digit bytes

-- what follows the digits at the front
abbrev pub after_digits : List ℕ → List ℕ
after_digits bytes = drop (length (digits_at bytes)) bytes

abbrev pub has_point : List ℕ → Bool
has_point bytes = slice_index bytes 0 == 46

-- the digits behind a point at the front
abbrev pub part_at : List ℕ → List ℕ
part_at bytes = if has_point bytes then digits_at (drop 1 bytes) else []

-- what follows a point at the front and its digits
abbrev pub after_part : List ℕ → List ℕ
after_part bytes = if has_point bytes then after_digits (drop 1 bytes) else bytes

-- an exponent is `e` or `E`, a sign or none, and one digit or more up to the end
abbrev pub is_exponent : List ℕ → Bool
is_exponent bytes =
    (slice_index bytes 0 == 101 || slice_index bytes 0 == 69)
    && (nat_lt 0 (length (without_leading_sign (drop 1 bytes))) && all_ascii_digits (without_leading_sign (drop 1 bytes)))

-- the number whose digits are given, with the exponent that the rest of the bytes write
abbrev pub with_exponent : Bool → List ℕ → List ℕ → List ℕ → Option Decimal
with_exponent negative whole part rest =
    if length whole + length part == 0 then None
    else if length rest == 0 then
    Some (record { negative = negative; whole = whole; part = part; power_negative = false; power = [] })
    else if is_exponent rest then
    Some (record { negative = negative; whole = whole; part = part; power_negative = starts_with_minus (drop 1 rest); power = without_leading_sign (drop 1 rest) })
    else None

-- the number without its sign
abbrev pub unsigned_of : Bool → List ℕ → Option Decimal
unsigned_of negative bytes =
    with_exponent negative (digits_at bytes) (part_at (after_digits bytes)) (after_part (after_digits bytes))

-- the bytes taken apart, or none where they are no decimal number
abbrev pub decimal_of : List ℕ → Option Decimal
decimal_of bytes = unsigned_of (starts_with_minus bytes) (without_leading_sign bytes)

-- the exponent's digits as a number
abbrev pub power_of : Decimal → ℕ
power_of d = digits_value 10 d.power

-- all digits before the exponent
abbrev pub digits_of : Decimal → List ℕ
digits_of d = d.whole ++ d.part

-- In millionths, and times 10 ^ tens, a decimal is its digits, read as one number, times 10 ^ raised over 10 ^ lowered.
abbrev pub raised : Decimal → ℕ → ℕ
raised d tens = tens + 6 + (if d.power_negative then 0 else power_of d)

abbrev pub lowered : Decimal → ℕ
lowered d = length d.part + (if d.power_negative then power_of d else 0)

-- the digits, read as one number, times 10 ^ up and over 10 ^ down, rounded once
unfoldable pub scaled : List ℕ → ℕ → ℕ → ℕ
scaled digits up down = nearest (digits_value 10 digits * 10 ^ up) (10 ^ down)

-- w is that number rounded, in the words of the rule
unfoldable pub IsScaled : List ℕ → ℕ → ℕ → ℕ → Type 0
IsScaled digits up down w = IsNearest (digits_value 10 digits * 10 ^ up) (10 ^ down) w

-- the magnitude in millionths
abbrev pub magnitude_of : Decimal → ℕ → ℕ
magnitude_of d tens = scaled (digits_of d) (raised d tens) (lowered d)

abbrev pub IsMagnitude : Decimal → ℕ → ℕ → Type 0
IsMagnitude d tens w = IsScaled (digits_of d) (raised d tens) (lowered d) w

-- the bytes are a decimal number, and w is its magnitude, in the words of the rule
abbrev pub HasMagnitude : Option Decimal → ℕ → ℕ → Type 0
HasMagnitude None tens w = ⊥
HasMagnitude (Some d) tens w = IsMagnitude d tens w

-- the bytes are a decimal number whose magnitude is 2 ^ 40 or more
abbrev pub IsFar : Option Decimal → ℕ → Type 0
IsFar None tens = ⊥
IsFar (Some d) tens = (w : ℕ) → IsMagnitude d tens w → NUMBER_LIMIT ≤ w

-- a magnitude with its sign
abbrev pub signed_of : Bool → ℕ → ℤ
signed_of negative w = if negative then neg_ℤ (pos w) else pos w

-- a number whose next digit is given, rounded by it
abbrev pub rounded_by : ℕ → ℕ → ℕ
rounded_by n digit = if nat_lt digit 5 then n else n + 1

-- r is the magnitude w, or none where it is 2 ^ 40 or more
abbrev pub IsBounded : Option ℕ → ℕ → Type 0
IsBounded r w = MatchOption r (NUMBER_LIMIT ≤ w) (λ v. (v ≡ w) × (w < NUMBER_LIMIT))

-- what fits: magnitudes below 2 ^ 40
abbrev pub in_range : ℕ → Option ℕ
in_range w = if nat_lt w NUMBER_LIMIT then Some w else None

abbrev pub signed_or_far : Bool → Option ℕ → Result ℤ NumErr
signed_or_far negative None = Err OutOfRange
signed_or_far negative (Some w) = Ok (signed_of negative w)

abbrev pub reading : Option Decimal → ℕ → Result ℤ NumErr
reading None tens = Err NotNumber
reading (Some d) tens = signed_or_far d.negative (in_range (magnitude_of d tens))

-- what the bytes stand for times 10 ^ tens, in millionths
abbrev pub read_of : List ℕ → ℕ → Result ℤ NumErr
read_of bytes tens = reading (decimal_of bytes) tens
