-- Places in a netlist, after IEEE 1364-2005: what stands at a piece of a statement. A statement is a declaration, `input a, b ;`, an
-- instance, `cell name ( .pin(net), .. ) ;`, or the module's header.

use Rattle.std.specs.Prelude.{ℕ, ◌+◌, ◌-◌, ◌==◌, Bool, not, ◌&&◌, ◌||◌, nat_lt, List, codes}
use Rattle.gs_text.specs.declared.kinds.Piece.{Piece}
use Rattle.gs_locate.specs.Piece.{is_mark, is_word, is_name, text_at}

-- the statement is an instance's: its third piece is an opening parenthesis, and it isn't the header
abbrev pub is_instance : (bytes : List ℕ) (ps : List Piece) (start : ℕ) → Bool
is_instance bytes ps start = is_mark 40 bytes ps (start + 2) && not (is_word (codes "module") bytes ps start)

-- the statement is that of the instance of a name
abbrev pub is_instance_named : (name bytes : List ℕ) (ps : List Piece) (start : ℕ) → Bool
is_instance_named name bytes ps start = is_instance bytes ps start && is_name name bytes ps (start + 1)

-- the name of an instance: the second piece of its statement
abbrev pub is_instance_name : (name bytes : List ℕ) (ps : List Piece) (start at : ℕ) → Bool
is_instance_name name bytes ps start at = (at == start + 1) && is_instance_named name bytes ps start

-- the cell of the instance of a name: the first piece of its statement
abbrev pub is_instance_cell : (name bytes : List ℕ) (ps : List Piece) (start at : ℕ) → Bool
is_instance_cell name bytes ps start at = (at == start) && is_instance_named name bytes ps start

-- a cell of a name in the statement of any instance
abbrev pub is_cell : (cell bytes : List ℕ) (ps : List Piece) (start at : ℕ) → Bool
is_cell cell bytes ps start at = (at == start) && is_instance bytes ps start && is_name cell bytes ps at

-- a pin in the statement of an instance: a dot stands before it, and an opening parenthesis after it
abbrev pub is_pin : (inst pin bytes : List ℕ) (ps : List Piece) (start at : ℕ) → Bool
is_pin inst pin bytes ps start at =
    is_name pin bytes ps at && is_mark 46 bytes ps (at - 1) && is_mark 40 bytes ps (at + 1) && is_instance_named inst bytes ps start

-- a net in the statement of any instance, between the parentheses after a pin
abbrev pub is_connected_net : (net bytes : List ℕ) (ps : List Piece) (start at : ℕ) → Bool
is_connected_net net bytes ps start at =
    is_name net bytes ps at && is_mark 40 bytes ps (at - 1) && is_mark 41 bytes ps (at + 1) && is_instance bytes ps start

-- a name in a declaration that begins with a word
abbrev pub is_declared : (word name bytes : List ℕ) (ps : List Piece) (start at : ℕ) → Bool
is_declared word name bytes ps start at = nat_lt start at && is_name name bytes ps at && is_word word bytes ps start

-- a name that is declared an input or an output
abbrev pub is_port : (name bytes : List ℕ) (ps : List Piece) (start at : ℕ) → Bool
is_port name bytes ps start at =
    is_declared (codes "input") name bytes ps start at || is_declared (codes "output") name bytes ps start at

-- a net where it is driven: connected to a pin that drives, which the cell's name and the pin's tell, or declared an input
abbrev pub is_driven : (drives : List ℕ → List ℕ → Bool) (net bytes : List ℕ) (ps : List Piece) (start at : ℕ) → Bool
is_driven drives net bytes ps start at =
    (is_connected_net net bytes ps start at && drives (text_at bytes ps start) (text_at bytes ps (at - 2)))
    || is_declared (codes "input") net bytes ps start at
