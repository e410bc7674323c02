-- What is known of the pieces of a text that is read.

use Rattle.std.specs.Prelude.{◌≡◌, ℕ, ◌≤◌, List, length, Ok}
use Rattle.std.specs.List.{All}
use Rattle.gs_text.specs.Cut.{pieces}
use Rattle.gs_text.specs.Pieces.{InOrder, LiesIn}
use Rattle.gs_text.specs.declared.kinds.Piece.{Piece}
use Rattle.gs_text.specs.declared.kinds.Style.{Style}

-- the text has pieces, which lie in it and stand in its order; there are no more of them than bytes
pub record HasPieces (style : Style) (bytes : List ℕ) : Type 0 where
  pub found : List Piece
  pub cut_is : pieces style bytes ≡ Ok found
  pub few : length found ≤ length bytes
  pub inside : All (LiesIn (length bytes)) found
  pub ordered : InOrder 0 found
