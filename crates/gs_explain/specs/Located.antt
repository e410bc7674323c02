-- What is printed of a place in a text: its file, line and column, the line, and a mark under the place.
use Rattle.std.specs.Prelude.{ℕ, ◌+◌, ◌-◌, ◌==◌, ◌||◌, nat_lt, List, [], ◌∷◌, map, min, codes, decimal, slice_range, if◌then◌else◌}
use Rattle.std.specs.List.{concat}
use Rattle.gs_explain.specs.Place.{line_of, column_of, bytes_before, bytes_after}
use Rattle.gs_explain.specs.declared.excerpt.TheConstants.{MOST}

-- a control byte is shown as a space, so that no text steers a terminal; a tab stays
abbrev pub shown : ℕ → ℕ
shown c = if c == 9 then 9 else if nat_lt c 32 || c == 127 then 32 else c

-- under a tab stands a tab, and under any other byte a space
abbrev pub under : ℕ → ℕ
under c = if c == 9 then 9 else 32

-- the first byte of the line that is shown; a long line is cut
abbrev pub shown_from : (bytes : List ℕ) → (at : ℕ) → ℕ
shown_from bytes at = at - min (bytes_before bytes at) MOST

-- the byte past the last that is shown
abbrev pub shown_to : (bytes : List ℕ) → (at : ℕ) → ℕ
shown_to bytes at = at + min (bytes_after bytes at) MOST

abbrev pub excerpt : (bytes : List ℕ) → (at : ℕ) → List ℕ
excerpt bytes at = map shown (slice_range bytes (shown_from bytes at) (shown_to bytes at))

-- the place is under the mark
abbrev pub mark : (bytes : List ℕ) → (at : ℕ) → List ℕ
mark bytes at = concat (map under (slice_range bytes (shown_from bytes at) at) ∷ codes "^" ∷ [])

-- a file, and what is said of it
abbrev pub unplaced : (name what : List ℕ) → List ℕ
unplaced name what = concat (name ∷ codes ": " ∷ what ∷ codes "\n" ∷ [])

-- a place of a file's bytes, what is said of it, its line, and the mark
abbrev pub located : (name bytes : List ℕ) → (at : ℕ) → (what : List ℕ) → List ℕ
located name bytes at what = concat (
    name ∷ codes ":" ∷ decimal (line_of bytes at) ∷ codes ":" ∷ decimal (column_of bytes at) ∷ codes ": " ∷ what
    ∷ codes "\n" ∷ excerpt bytes at ∷ codes "\n" ∷ mark bytes at ∷ codes "\n" ∷ [])
