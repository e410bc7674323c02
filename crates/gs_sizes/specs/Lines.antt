-- The lines of a text of sizes, and their words.

use Rattle.std.specs.Prelude.{ℕ, ◌+◌, ◌-◌, ◌==◌, Bool, true, false, not, ◌||◌, List, [], ◌∷◌, filter, length, slice_index, take, if◌then◌else◌}

-- lists with one more element before the first of them
abbrev pub with_first : ℕ → List (List ℕ) → List (List ℕ)
with_first c [] = (c ∷ []) ∷ []
with_first c (l ∷ ls) = (c ∷ l) ∷ ls

-- The lines: each ends at a newline. What stands after the last newline is a line where it isn't empty, so an empty text has none.
abbrev pub lines : List ℕ → List (List ℕ)
lines [] = []
lines (c ∷ cs) = if c == 10 then [] ∷ lines cs else with_first c (lines cs)

-- a carriage return at the end of a line is passed over
abbrev pub without_return : List ℕ → List ℕ
without_return line = if slice_index line (length line - 1) == 13 then take (length line - 1) line else line

-- a space or a tab
abbrev pub is_blank : ℕ → Bool
is_blank c = c == 32 || c == 9

-- what stands between blanks
abbrev pub parts : List ℕ → List (List ℕ)
parts [] = [] ∷ []
parts (c ∷ cs) = if is_blank c then [] ∷ parts cs else with_first c (parts cs)

abbrev pub is_empty : List ℕ → Bool
is_empty [] = true
is_empty (c ∷ cs) = false

-- the parts that aren't empty
abbrev pub runs : List ℕ → List (List ℕ)
runs bytes = filter (λ w. not (is_empty w)) (parts bytes)

-- the words of a line
abbrev pub words : List ℕ → List (List ℕ)
words line = runs (without_return line)

-- a line as its number, counted from 1, and its words
pub record Row : Type 0 where
  pub number : ℕ
  pub words : List (List ℕ)

abbrev pub row_of : ℕ → List ℕ → Row
row_of i line = record { number = i; words = words line }

-- lines that are numbered from i on
abbrev pub rows_from : ℕ → List (List ℕ) → List Row
rows_from i [] = []
rows_from i (l ∷ ls) = row_of i l ∷ rows_from (i + 1) ls

abbrev pub rows : List ℕ → List Row
rows bytes = rows_from 1 (lines bytes)
