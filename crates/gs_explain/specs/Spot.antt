-- Where a refused text is shown, and what is printed of it.
use Rattle.std.specs.Prelude.{◌≡◌, ◌≤◌, ◌⊎◌, ℕ, List, length, Option, None, Some, Ok, take}
use Rattle.gs_text.specs.Cut.{pieces}
use Rattle.gs_text.specs.declared.kinds.Piece.{Piece}
use Rattle.gs_explain.specs.Lines.{IsLinePlace}
use Rattle.gs_explain.specs.Located.{located, unplaced}
use Rattle.gs_explain.specs.Odd.{odd_text}
use Rattle.gs_explain.specs.Pieces.{IsPieceAt, end_of}
use Rattle.gs_explain.specs.Said.{IsEarly, of_piece, unexpected}
use Rattle.gs_explain.specs.Wanted.{AreWanted, style_of}
use Rattle.gs_explain.specs.declared.form.Form.{Form}
use Rattle.gs_explain.specs.declared.form.Wanted.{Wanted}
use Rattle.gs_explain.specs.declared.spot.Spot.{Spot}
use Rattle.gs_explain.specs.declared.spot.Spot.TheVariants.{AtByte, AtLine, AtPiece, Wrong, Nowhere}

-- this is said at the piece of this number in whose place others are wanted
abbrev pub IsWrongPiece : Form → (bytes : List ℕ) → (i at : ℕ) → (said : List ℕ) → Type 0
IsWrongPiece form bytes i at said =
    (p : Piece) × IsPieceAt (style_of form) bytes i p × (at ≡ p.from)
    × (those : List Wanted) × AreWanted form (take at bytes) i those × (said ≡ unexpected bytes p those)

-- this is said past the last piece, where there are just so many pieces
abbrev pub IsEarlyEnd : Form → (bytes : List ℕ) → (i at : ℕ) → (said : List ℕ) → Type 0
IsEarlyEnd form bytes i at said =
    (ps : List Piece) × (pieces (style_of form) bytes ≡ Ok ps) × (length ps ≡ i) × (at ≡ end_of ps) × IsEarly form bytes ps said

-- the place of a spot in the bytes, and what is said there
abbrev pub IsSaidAt : Spot → (what bytes : List ℕ) → (at : ℕ) → (said : List ℕ) → Type 0
IsSaidAt (AtByte b) what bytes at said = (at ≡ b) × (at ≤ length bytes) × (said ≡ what)
IsSaidAt (AtLine line) what bytes at said = IsLinePlace bytes line at × (said ≡ what)
IsSaidAt (AtPiece form i) what bytes at said = (p : Piece) × IsPieceAt (style_of form) bytes i p × (at ≡ p.from) × (said ≡ of_piece bytes p what)
IsSaidAt (Wrong form i) what bytes at said = IsWrongPiece form bytes i at said ⊎ IsEarlyEnd form bytes i at said
IsSaidAt Nowhere what bytes at said = ⊥

-- a spot is shown with its line and its mark
abbrev pub IsShown : (name : List ℕ) → Spot → (what bytes text : List ℕ) → Type 0
IsShown name spot what bytes text = (at : ℕ) × (said : List ℕ) × IsSaidAt spot what bytes at said × (text ≡ located name bytes at said)

-- the text has no such spot
abbrev pub HasNone : Spot → (what bytes : List ℕ) → Type 0
HasNone spot what bytes = (at : ℕ) (said : List ℕ) → IsSaidAt spot what bytes at said → ⊥

-- of a file that is no text at all this is said; a spot is shown in its line, and one that the text doesn't have is named alone
abbrev pub IsToldBy : Option (List ℕ) → (name : List ℕ) → Spot → (what bytes text : List ℕ) → Type 0
IsToldBy (Some odd) name spot what bytes text = text ≡ unplaced name odd
IsToldBy None name spot what bytes text = IsShown name spot what bytes text ⊎ (HasNone spot what bytes × (text ≡ unplaced name what))

abbrev pub IsTold : (name : List ℕ) → Spot → (what bytes text : List ℕ) → Type 0
IsTold name spot what bytes text = IsToldBy (odd_text bytes) name spot what bytes text
