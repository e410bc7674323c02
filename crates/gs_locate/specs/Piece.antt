-- What stands at a place among the pieces of a text. Places count from 0, and past the last piece nothing stands.

use Rattle.std.specs.Prelude.{ℕ, zero, suc, Bool, true, false, ◌&&◌, List, [], ◌∷◌, slice_get, Option, None, Some, if◌then◌else◌}
use Rattle.std.specs.Str.{bytes_eq}
use Rattle.gs_text.specs.Pieces.{text_of}
use Rattle.gs_text.specs.declared.kinds.Kind.{Kind}
use Rattle.gs_text.specs.declared.kinds.Kind.TheVariants.{Word, Escaped, Text, Mark}
use Rattle.gs_text.specs.declared.kinds.Piece.{Piece}

-- the piece is a mark, which stands for itself
abbrev pub is_mark_kind : Kind → Bool
is_mark_kind Word = false
is_mark_kind Escaped = false
is_mark_kind Text = false
is_mark_kind Mark = true

abbrev pub is_word_kind : Kind → Bool
is_word_kind Word = true
is_word_kind Escaped = false
is_word_kind Text = false
is_word_kind Mark = false

-- a word, an escaped name and a string each stand for a name
abbrev pub is_name_kind : Kind → Bool
is_name_kind Word = true
is_name_kind Escaped = true
is_name_kind Text = true
is_name_kind Mark = false

-- a piece stands there, its kind passes, and it stands for these bytes
abbrev pub stands : (Kind → Bool) → (text bytes : List ℕ) → Option Piece → Bool
stands passes text bytes None = false
stands passes text bytes (Some p) = passes p.kind && bytes_eq (text_of bytes p) text

-- the mark of this byte stands there
abbrev pub is_mark : (byte : ℕ) (bytes : List ℕ) (ps : List Piece) (at : ℕ) → Bool
is_mark byte bytes ps at = stands is_mark_kind (byte ∷ []) bytes (slice_get ps at)

-- this word stands there, and no escaped name or string in its place
abbrev pub is_word : (text bytes : List ℕ) (ps : List Piece) (at : ℕ) → Bool
is_word text bytes ps at = stands is_word_kind text bytes (slice_get ps at)

-- the name stands there, however it is written
abbrev pub is_name : (text bytes : List ℕ) (ps : List Piece) (at : ℕ) → Bool
is_name text bytes ps at = stands is_name_kind text bytes (slice_get ps at)

-- what the piece there stands for, no bytes where there is none
abbrev pub text_by : (bytes : List ℕ) → Option Piece → List ℕ
text_by bytes None = []
text_by bytes (Some p) = text_of bytes p

abbrev pub text_at : (bytes : List ℕ) (ps : List Piece) (at : ℕ) → List ℕ
text_at bytes ps at = text_by bytes (slice_get ps at)

-- some mark stands there
abbrev pub is_any_mark : Option Piece → Bool
is_any_mark None = false
is_any_mark (Some p) = is_mark_kind p.kind

-- the place of the latest mark before a place, 0 where there is none
abbrev pub mark_before : List Piece → ℕ → ℕ
mark_before ps zero = 0
mark_before ps (suc at) = if is_any_mark (slice_get ps at) then at else mark_before ps at
