-- The statement in which a piece stands.

use Rattle.std.specs.Prelude.{ℕ, zero, suc, ◌==◌, Bool, not, ◌||◌, List, slice_get, Option, None, Some, if◌then◌else◌}
use Rattle.gs_text.specs.declared.kinds.Piece.{Piece}
use Rattle.gs_text.specs.declared.kinds.Style.{Style}
use Rattle.gs_text.specs.declared.kinds.Style.TheVariants.{Verilog, Lib, Spef, Sdc}
use Rattle.gs_locate.specs.Piece.{is_mark}

-- the line of a piece, in SDC that of its command; 0 where there is none
abbrev pub line_of : Option Piece → ℕ
line_of None = 0
line_of (Some p) = p.line

abbrev pub line_at : List Piece → ℕ → ℕ
line_at ps at = line_of (slice_get ps at)

-- a statement ends with the piece at a place: with a semicolon in Verilog; with a semicolon or a brace in Liberty; with its line in
-- SPEF, and with its command in SDC
abbrev pub ends : Style → (bytes : List ℕ) → List Piece → ℕ → Bool
ends Verilog bytes ps at = is_mark 59 bytes ps at
ends Lib bytes ps at = is_mark 59 bytes ps at || is_mark 123 bytes ps at || is_mark 125 bytes ps at
ends Spef bytes ps at = not (line_at ps at == line_at ps (suc at))
ends Sdc bytes ps at = not (line_at ps at == line_at ps (suc at))

-- where the statement begins in which the piece at a place stands: past the end of the latest one before it, or at the first piece
abbrev pub start_of : Style → (bytes : List ℕ) → List Piece → ℕ → ℕ
start_of style bytes ps zero = zero
start_of style bytes ps (suc at) = if ends style bytes ps at then suc at else start_of style bytes ps at
