-- Places of a text as people count them: lines and columns from 1, a column by bytes, of which a tab is one.
use Rattle.std.specs.Prelude.{ℕ, ◌+◌, Bool, not, ◌==◌, List, take, drop}
use Rattle.std.specs.List.{count_by, prefix_len, suffix_len}

abbrev pub is_newline : ℕ → Bool
is_newline c = c == 10

-- a byte that doesn't end its line
abbrev pub stays : ℕ → Bool
stays c = not (is_newline c)

-- the line of a place: one more than the newlines before it
abbrev pub line_of : (bytes : List ℕ) → (at : ℕ) → ℕ
line_of bytes at = 1 + count_by is_newline (take at bytes)

-- how many bytes stand before the place on its line, since the last newline
abbrev pub bytes_before : (bytes : List ℕ) → (at : ℕ) → ℕ
bytes_before bytes at = suffix_len stays (take at bytes)

-- how many bytes stand from the place on, up to the next newline
abbrev pub bytes_after : (bytes : List ℕ) → (at : ℕ) → ℕ
bytes_after bytes at = prefix_len stays (drop at bytes)

-- the column of a place: one more than the bytes since the last newline
abbrev pub column_of : (bytes : List ℕ) → (at : ℕ) → ℕ
column_of bytes at = 1 + bytes_before bytes at
