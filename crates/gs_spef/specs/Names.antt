-- Names in SPEF, after IEEE 1481-1999: a backslash before a byte that isn't a letter, a digit or an underscore.

use Rattle.std.specs.Prelude.{ℕ, Bool, true, false, not, ◌==◌, ◌&&◌, nat_lt, List, [], ◌∷◌, length}
use Rattle.std.specs.Char.{is_ascii_digit}
use Rattle.std.specs.List.{list_all}

-- the byte before bytes, unless it is dropped
abbrev pub kept_unless : Bool → ℕ → List ℕ → List ℕ
kept_unless true c cs = cs
kept_unless false c cs = c ∷ cs

-- a backslash, which isn't itself the byte after one
abbrev pub escapes : (escaped : Bool) → ℕ → Bool
escapes escaped c = c == 92 && not escaped

-- the bytes without their backslashes, each of which keeps the byte after it; escaped where the first is such a byte
abbrev pub unescaped_past : (escaped : Bool) → List ℕ → List ℕ
unescaped_past escaped [] = []
unescaped_past escaped (c ∷ cs) = kept_unless (escapes escaped c) c (unescaped_past (escapes escaped c) cs)

-- the name that a word writes: a backslash is dropped and the byte after it kept
abbrev pub unescaped : List ℕ → List ℕ
unescaped text = unescaped_past false text

-- one or more digits
abbrev pub are_digits : List ℕ → Bool
are_digits text = nat_lt 0 (length text) && list_all is_ascii_digit text

-- a star and digits
abbrev pub is_index : List ℕ → Bool
is_index [] = false
is_index (c ∷ cs) = c == 42 && are_digits cs
