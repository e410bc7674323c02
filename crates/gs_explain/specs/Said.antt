-- What is said of a refused text, by its pieces.
use Rattle.std.specs.Prelude.{◌≡◌, ◌⊎◌, ℕ, ◌+◌, List, [], ◌∷◌, map, min, codes, decimal, slice_get, slice_range, Some}
use Rattle.std.specs.List.{concat}
use Rattle.gs_text.specs.declared.kinds.Piece.{Piece}
use Rattle.gs_explain.specs.Located.{shown}
use Rattle.gs_explain.specs.Pieces.{IsClosedFrom, IsInnermost}
use Rattle.gs_explain.specs.Wanted.{names}
use Rattle.gs_explain.specs.declared.form.Form.{Form}
use Rattle.gs_explain.specs.declared.form.Form.TheVariants.{Netlist, Liberty}
use Rattle.gs_explain.specs.declared.form.Wanted.{Wanted}
use Rattle.gs_explain.specs.declared.said.TheConstants.{QUOTED}

-- a piece as it is quoted: its first bytes between quotes
abbrev pub quoted : (bytes : List ℕ) → Piece → List ℕ
quoted bytes p = concat (codes "'" ∷ map shown (slice_range bytes p.from (min p.to (p.from + QUOTED))) ∷ codes "'" ∷ [])

-- what is said of a piece
abbrev pub of_piece : (bytes : List ℕ) → Piece → (what : List ℕ) → List ℕ
of_piece bytes p what = concat (quoted bytes p ∷ codes " " ∷ what ∷ [])

-- what is said of a piece in whose place these could stand
abbrev pub unexpected : (bytes : List ℕ) → Piece → List Wanted → List ℕ
unexpected bytes p [] = concat (codes "unexpected " ∷ quoted bytes p ∷ [])
unexpected bytes p (w ∷ ws) = concat (codes "expected " ∷ names (w ∷ ws) ∷ codes " before " ∷ quoted bytes p ∷ [])

-- what is still open where the pieces end
abbrev pub open_still : (bytes : List ℕ) → Piece → (what : List ℕ) → List ℕ
open_still bytes p what = concat (codes "the text ends here, and " ∷ quoted bytes p ∷ codes " of line " ∷ decimal p.line ∷ codes " " ∷ what ∷ [])

-- what is said where no bracket is open: the module of a netlist has no end; a library's group has no braces yet
abbrev pub unended : Form → (bytes : List ℕ) → List Piece → List ℕ
unended form bytes [] = codes "the text has nothing but white and comments"
unended Netlist bytes (p ∷ ps) = open_still bytes p (codes "has no 'endmodule'")
unended Liberty bytes (p ∷ ps) = open_still bytes p (codes "has no '{'")

-- what is said of a text of these pieces that ends early
abbrev pub IsEarly : Form → (bytes : List ℕ) → List Piece → (said : List ℕ) → Type 0
IsEarly form bytes ps said =
    ((i : ℕ) × (p : Piece) × IsInnermost bytes ps i × (slice_get ps i ≡ Some p) × (said ≡ open_still bytes p (codes "is not closed")))
    ⊎ (((i : ℕ) → IsClosedFrom bytes ps i) × (said ≡ unended form bytes ps))
