-- Places in SPEF, after IEEE 1481-1999.

use Rattle.std.specs.Prelude.{ℕ, ◌+◌, ◌==◌, Bool, ◌&&◌, List, codes}
use Rattle.gs_text.specs.declared.kinds.Piece.{Piece}
use Rattle.gs_locate.specs.Piece.{is_word}

-- the name of a net where its block begins: the second word of a line whose first is *D_NET
abbrev pub is_net_block : (bytes : List ℕ) (ps : List Piece) (start at : ℕ) → Bool
is_net_block bytes ps start at = (at == start + 1) && is_word (codes "*D_NET") bytes ps start
