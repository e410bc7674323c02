-- The bytes of a value: lines that are continued, and the runs between white.

use Rattle.std.specs.Prelude.{ℕ, Bool, true, false, ◌==◌, ◌||◌, ◌&&◌, List, [], ◌∷◌, filter, if◌then◌else◌}
use Rattle.std.specs.List.{slice_split}
use Rattle.gs_text.specs.Bytes.{is_white}

-- a backslash directly before a newline
abbrev pub continues : ℕ → List ℕ → Bool
continues c [] = false
continues c (next ∷ rest) = c == 92 && next == 10

abbrev pub unfolded_byte : ℕ → List ℕ → ℕ
unfolded_byte c rest = if continues c rest then 32 else c

-- the text with a blank for each backslash that is directly before a newline, which is white itself
abbrev pub unfolded : List ℕ → List ℕ
unfolded [] = []
unfolded (c ∷ cs) = unfolded_byte c cs ∷ unfolded cs

-- white, and a comma where commas part
abbrev pub is_gap : (commas : Bool) → ℕ → Bool
is_gap commas c = is_white c || (commas && c == 44)

-- a run has one byte or more
abbrev pub is_run : List ℕ → Bool
is_run [] = false
is_run (c ∷ cs) = true

-- the runs between the gaps
abbrev pub runs_in : (commas : Bool) → List ℕ → List (List ℕ)
runs_in commas text = filter is_run (slice_split (is_gap commas) text)

-- the words between white, a continuation being white
abbrev pub words_of : List ℕ → List (List ℕ)
words_of text = runs_in false (unfolded text)

-- what stands between commas and white, a continuation being white
abbrev pub entries_of : List ℕ → List (List ℕ)
entries_of text = runs_in true (unfolded text)
