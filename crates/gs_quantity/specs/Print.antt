-- How a number of millionths is printed.
use Rattle.std.specs.Prelude.{ℕ, ◌+◌, ◌/◌, ◌%◌, List, ◌∷◌, ◌++◌, drop, decimal, ℤ, pos, negsuc, suc}

-- the six decimal digits of a number below a million
abbrev pub six_digits : ℕ → List ℕ
six_digits n = drop 1 (decimal (1000000 + n))

-- the whole part, a point and six digits
abbrev pub magnitude_text : ℕ → List ℕ
magnitude_text n = decimal (n / 1000000) ++ 46 ∷ six_digits (n % 1000000)

-- with a minus before a negative number
abbrev pub micro_text : ℤ → List ℕ
micro_text (pos n) = magnitude_text n
micro_text (negsuc n) = 45 ∷ magnitude_text (suc n)
