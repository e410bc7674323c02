-- Runs of bytes, each up to where a test of a byte and of the one after it holds.
use Rattle.std.specs.Prelude.{ℕ, ◌+◌, Bool, ◌==◌, ◌&&◌, List, [], ◌∷◌, slice_index, if◌then◌else◌}
use Rattle.gs_text.specs.Bytes.{is_white}

-- how many bytes stand before the first at which the test of a byte and the next one holds, or all; 0 follows the last
abbrev pub until : (ℕ → ℕ → Bool) → List ℕ → ℕ
until test [] = 0
until test (c ∷ cs) = if test c (slice_index cs 0) then 0 else until test cs + 1

abbrev pub is_quote : ℕ → ℕ → Bool
is_quote c next = c == 34

abbrev pub is_newline : ℕ → ℕ → Bool
is_newline c next = c == 10

abbrev pub is_blank : ℕ → ℕ → Bool
is_blank c next = is_white c

-- a backslash directly before a line end, which continues the line
abbrev pub continues : ℕ → ℕ → Bool
continues c next = c == 92 && next == 10

-- a star and a slash
abbrev pub closes_comment : ℕ → ℕ → Bool
closes_comment c next = c == 42 && next == 47

-- a slash and a star
abbrev pub opens_comment : ℕ → ℕ → Bool
opens_comment c next = c == 47 && next == 42

-- two slashes
abbrev pub opens_line_comment : ℕ → ℕ → Bool
opens_line_comment c next = c == 47 && next == 47
