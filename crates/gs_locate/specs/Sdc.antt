-- Places in constraints, in the SDC format.

use Rattle.std.specs.Prelude.{ℕ, ◌+◌, ◌-◌, ◌==◌, Bool, ◌&&◌, ◌||◌, List, codes}
use Rattle.gs_text.specs.declared.kinds.Piece.{Piece}
use Rattle.gs_locate.specs.Piece.{is_mark, is_name, mark_before}

-- `[get_ports` begins at a place
abbrev pub opens_ports : (bytes : List ℕ) (ps : List Piece) (at : ℕ) → Bool
opens_ports bytes ps at = is_mark 91 bytes ps at && is_name (codes "get_ports") bytes ps (at + 1)

-- the piece is `x` in `[get_ports x]`, where the latest mark before it is the bracket
abbrev pub is_sole_port : (bytes : List ℕ) (ps : List Piece) (mark at : ℕ) → Bool
is_sole_port bytes ps mark at = (at == mark + 2) && opens_ports bytes ps mark

-- the piece is one of those between the braces of `[get_ports {x y ..}]`, where the latest mark before it is the opening brace
abbrev pub is_port_among : (bytes : List ℕ) (ps : List Piece) (mark : ℕ) → Bool
is_port_among bytes ps mark = is_mark 123 bytes ps mark && opens_ports bytes ps (mark - 2)

-- the piece is one of the ports that its command names
abbrev pub is_port_listed : (bytes : List ℕ) (ps : List Piece) (mark at : ℕ) → Bool
is_port_listed bytes ps mark at = is_sole_port bytes ps mark at || is_port_among bytes ps mark

-- a port of a name in a command that begins with a word
abbrev pub is_constrained : (command port bytes : List ℕ) (ps : List Piece) (start at : ℕ) → Bool
is_constrained command port bytes ps start at =
    is_name port bytes ps at && is_name command bytes ps start && is_port_listed bytes ps (mark_before ps at) at
