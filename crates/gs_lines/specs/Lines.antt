-- A text as lines: words that have the number of their line, put together by it.

use Rattle.std.specs.Prelude.{ℕ, ◌+◌, ◌-◌, List, [], ◌∷◌, length, Result, Ok, Err, slice_index, ◌==◌, ◌||◌, if◌then◌else◌}
use Rattle.std.specs.List.{count_by}
use Rattle.gs_text.specs.Cut.{pieces}
use Rattle.gs_text.specs.declared.kinds.Piece.{Piece}
use Rattle.gs_text.specs.declared.kinds.Style.{Style}
use Rattle.gs_text.specs.declared.kinds.TextErr.{TextErr}

-- a line that has a word
pub record Line (W : Type 0) : Type 0 where
  pub number : ℕ
  pub words : List W

-- the lines with this word, of the line of this number, before all
abbrev pub with_word : {W : Type 0} → (number : ℕ) → (word : W) → List (Line W) → List (Line W)
with_word number word [] = record { number = number; words = word ∷ [] } ∷ []
with_word number word (l ∷ ls) =
    if l.number == number then record { number = number; words = word ∷ l.words } ∷ ls
    else record { number = number; words = word ∷ [] } ∷ l ∷ ls

-- the lines of pieces, each of which has the number of a line and is a word
abbrev pub lines_of : {P W : Type 0} → (number : P → ℕ) → (word : P → W) → List P → List (Line W)
lines_of number word [] = []
lines_of number word (p ∷ ps) = with_word (number p) (word p) (lines_of number word ps)

-- the number of a piece's line
abbrev pub line_of : Piece → ℕ
line_of p = p.line

abbrev pub lines_by : {W : Type 0} → (word : Piece → W) → Result (List Piece) TextErr → List (Line W)
lines_by word (Ok ps) = lines_of line_of word ps
lines_by word (Err e) = []

-- the lines of a text that have a piece, in a style in which every text is cut
abbrev pub lines_in : {W : Type 0} → Style → (word : Piece → W) → (bytes : List ℕ) → List (Line W)
lines_in style word bytes = lines_by word (pieces style bytes)

-- how many lines a text has: one ends at each newline, and one more where the text doesn't end in a newline
abbrev pub line_count : List ℕ → ℕ
line_count bytes =
    count_by (λ c. c == 10) bytes
    + (if length bytes == 0 || slice_index bytes (length bytes - 1) == 10 then 0 else 1)
