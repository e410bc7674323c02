-- Pieces of a text by their number, and what is open where the pieces end.
use Rattle.std.specs.Prelude.{◌≡◌, ℕ, ◌-◌, ◌<◌, ◌≤◌, Bool, false, ◌==◌, ◌||◌, List, length, drop, slice_get, slice_index, Option, None, Some, Ok}
use Rattle.std.specs.List.{count_by}
use Rattle.gs_text.specs.Cut.{pieces}
use Rattle.gs_text.specs.declared.kinds.Kind.{Kind}
use Rattle.gs_text.specs.declared.kinds.Kind.TheVariants.{Word, Escaped, Text, Mark}
use Rattle.gs_text.specs.declared.kinds.Piece.{Piece}
use Rattle.gs_text.specs.declared.kinds.Style.{Style}

-- the text is cut into pieces, and this is the one of this number, counted from 0
abbrev pub IsPieceAt : Style → (bytes : List ℕ) → (i : ℕ) → Piece → Type 0
IsPieceAt style bytes i p = (ps : List Piece) × (pieces style bytes ≡ Ok ps) × (slice_get ps i ≡ Some p)

abbrev pub to_or_zero : Option Piece → ℕ
to_or_zero None = 0
to_or_zero (Some p) = p.to

-- the byte past the last piece
abbrev pub end_of : List Piece → ℕ
end_of ps = to_or_zero (slice_get ps (length ps - 1))

-- a piece of this kind that begins with this byte opens a bracket
abbrev pub opens_by : Kind → (byte : ℕ) → Bool
opens_by Mark byte = byte == 40 || byte == 123
opens_by Word byte = false
opens_by Escaped byte = false
opens_by Text byte = false

abbrev pub closes_by : Kind → (byte : ℕ) → Bool
closes_by Mark byte = byte == 41 || byte == 125
closes_by Word byte = false
closes_by Escaped byte = false
closes_by Text byte = false

-- the piece is an opening parenthesis or brace
abbrev pub opens : (bytes : List ℕ) → Piece → Bool
opens bytes p = opens_by p.kind (slice_index bytes p.from)

-- the piece is a closing parenthesis or brace
abbrev pub closes : (bytes : List ℕ) → Piece → Bool
closes bytes p = closes_by p.kind (slice_index bytes p.from)

-- from this piece on no more brackets open than close
abbrev pub IsClosedFrom : (bytes : List ℕ) → List Piece → (i : ℕ) → Type 0
IsClosedFrom bytes ps i = count_by (opens bytes) (drop i ps) ≤ count_by (closes bytes) (drop i ps)

-- the innermost bracket that is open at the end is the piece of this number: from it on more brackets open than close, and so from no later piece
pub record IsInnermost (bytes : List ℕ) (ps : List Piece) (i : ℕ) : Type 0 where
  pub inside : i < length ps
  pub more : count_by (closes bytes) (drop i ps) < count_by (opens bytes) (drop i ps)
  pub last : (j : ℕ) → i < j → IsClosedFrom bytes ps j
