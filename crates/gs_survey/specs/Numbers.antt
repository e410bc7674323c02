-- Nets by their numbers.

use Rattle.std.specs.Prelude.{ℕ, ◌==◌, Bool, List, [], ◌∷◌, nat_lt, slice_index_or, if◌then◌else◌}
use Rattle.std.specs.List.{position_or_len}
use Rattle.std.specs.Str.{bytes_eq}
use Rattle.gs_list.specs.Keys.{count_of}

-- the number of the net of a name: its place among the names, or how many there are where it isn't one of them
abbrev pub net_number : (nets : List (List ℕ)) → (name : List ℕ) → ℕ
net_number nets name = position_or_len (bytes_eq name) nets

abbrev pub net_name : (nets : List (List ℕ)) → ℕ → List ℕ
net_name nets n = slice_index_or nets n []

-- whether a number is one of these
abbrev pub is_one_of : List ℕ → ℕ → Bool
is_one_of numbers n = nat_lt 0 (count_of numbers n)

-- The value that is given for the number n, where the first of `values` is given for the first of `numbers`, and so on; another value
-- stands where none is given. Of several the last counts.
abbrev pub given : {V : Type 0} → (numbers : List ℕ) → (values : List V) → (other : V) → ℕ → V
given [] values other n = other
given (m ∷ numbers) [] other n = other
given (m ∷ numbers) (value ∷ values) other n = given numbers values (if m == n then value else other) n
