-- What the pieces before a place say of it. They are listed with the latest first.
use Rattle.std.specs.Prelude.{ℕ, Bool, true, false, ◌==◌, List, [], ◌∷◌, slice_index, if◌then◌else◌}
use Rattle.gs_text.specs.declared.kinds.Kind.{Kind}
use Rattle.gs_text.specs.declared.kinds.Kind.TheVariants.{Word, Escaped, Text, Mark}
use Rattle.gs_text.specs.declared.kinds.Piece.{Piece}

-- whether braces are open after a piece that begins with the byte, by whether they were before it
abbrev pub brace_by : Kind → (byte : ℕ) → Bool → Bool
brace_by Word byte braced = braced
brace_by Escaped byte braced = braced
brace_by Text byte braced = braced
brace_by Mark byte braced = if byte == 123 then true else if byte == 125 then false else braced

-- the last brace among the pieces is an opening one
abbrev pub in_braces : (bytes : List ℕ) → List Piece → Bool
in_braces bytes [] = false
in_braces bytes (p ∷ before) = brace_by p.kind (slice_index bytes p.from) (in_braces bytes before)

-- the line of the latest piece, 0 where there is none
abbrev pub latest_line : List Piece → ℕ
latest_line [] = 0
latest_line (p ∷ before) = p.line

-- the command that begins on the line has a piece
abbrev pub has_begun : (first : ℕ) → List Piece → Bool
has_begun first before = latest_line before == first
