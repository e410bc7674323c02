-- The lines of a text, and their words.

use Rattle.std.specs.Prelude.{ℕ, List, [], slice_index_or}
use Rattle.gs_lines.specs.Lines.{Line, line_of, lines_in, lines_of}
use Rattle.gs_text.specs.Pieces.{text_of}
use Rattle.gs_text.specs.declared.kinds.Piece.{Piece}
use Rattle.gs_text.specs.declared.kinds.Style.TheVariants.{Spef}

-- a word of a line, counted from 0; empty where the line has no such word
abbrev pub word : List (List ℕ) → ℕ → List ℕ
word ws i = slice_index_or ws i []

-- the lines that have a word, from the text's pieces
abbrev pub worded_lines : (bytes : List ℕ) → List Piece → List (Line (List ℕ))
worded_lines bytes ps = lines_of line_of (text_of bytes) ps

-- the lines of a text that have a word
abbrev pub text_lines : (bytes : List ℕ) → List (Line (List ℕ))
text_lines bytes = lines_in Spef (text_of bytes) bytes
