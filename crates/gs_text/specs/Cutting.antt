-- What it is to be the pieces of a text, as a relation.
use Rattle.std.specs.Prelude.{◌≡◌, ◌↔◌, ℕ, List, [], length, Ok}
use Rattle.std.specs.List.{All}
use Rattle.gs_text.specs.Cut.{pieces}
use Rattle.gs_text.specs.Gaps.{HasGaps}
use Rattle.gs_text.specs.Lines.{HaveLines}
use Rattle.gs_text.specs.Pieces.{LiesIn}
use Rattle.gs_text.specs.Whole.{AreWhole}
use Rattle.gs_text.specs.declared.kinds.Piece.{Piece}
use Rattle.gs_text.specs.declared.kinds.Style.{Style}

-- the pieces lie in the text; white, comments and continued line ends alone stand before, between and after them; each is
-- made of the bytes that its kind has, and of all of these; and each has its line
pub record IsCutting (style : Style) (bytes : List ℕ) (ps : List Piece) : Type 0 where
  pub inside : All (LiesIn (length bytes)) ps
  pub gaps : HasGaps style bytes [] 0 ps
  pub whole : AreWhole style bytes [] ps
  pub lines : HaveLines style bytes [] ps

-- these are the pieces of the text: the relation has them, and no others
abbrev pub IsCutAlone : Style → (bytes : List ℕ) → List Piece → Type 0
IsCutAlone style bytes ps = (pieces style bytes ≡ Ok ps) ↔ IsCutting style bytes ps
