-- Places in a library, after the Liberty reference manual: what stands at a piece, by the groups around it. The library is the text's one
-- group; cells are groups in it, pins groups in a cell, `timing` groups in a pin, and tables groups in these.

use Rattle.std.specs.Prelude.{ℕ, ◌+◌, ◌-◌, ◌==◌, Bool, false, ◌&&◌, ◌||◌, nat_lt, List, [], ◌∷◌, drop, codes, if◌then◌else◌}
use Rattle.gs_text.specs.declared.kinds.Piece.{Piece}
use Rattle.gs_text.specs.declared.kinds.Style.TheVariants.{Lib}
use Rattle.gs_locate.specs.Nest.{nest_of}
use Rattle.gs_locate.specs.Piece.{is_mark, is_word, is_name, text_at}
use Rattle.gs_locate.specs.Statement.{ends}
use Rattle.gs_locate.specs.declared.nest.Nest.{Nest}

-- a test of the piece at a place, by the groups around it
abbrev pub NestTest : Type 0
NestTest = (bytes : List ℕ) → List Piece → Nest → (at : ℕ) → Bool

abbrev pub nests : NestTest → (bytes : List ℕ) → List Piece → ℕ → Bool
nests test bytes ps at = test bytes ps (nest_of bytes ps at) at

-- `word (` stands at a place
abbrev pub calls : (word bytes : List ℕ) (ps : List Piece) (at : ℕ) → Bool
calls word bytes ps at = is_word word bytes ps at && is_mark 40 bytes ps (at + 1)

-- past the first closing parenthesis of these pieces an opening brace stands: it closes the args of a group, and not an attribute
abbrev pub opens_group : (bytes : List ℕ) → List Piece → Bool
opens_group bytes [] = false
opens_group bytes (p ∷ ps) = if is_mark 41 bytes (p ∷ ps) 0 then is_mark 123 bytes ps 0 else opens_group bytes ps

-- the name is among these pieces before their first closing parenthesis
abbrev pub has_arg : (name bytes : List ℕ) → List Piece → Bool
has_arg name bytes [] = false
has_arg name bytes (p ∷ ps) =
    if is_mark 41 bytes (p ∷ ps) 0 then false else is_name name bytes (p ∷ ps) 0 || has_arg name bytes ps

-- an item begins with the piece at a place
abbrev pub begins_item : (bytes : List ℕ) (ps : List Piece) (at : ℕ) → Bool
begins_item bytes ps at = ends Lib bytes ps (at - 1)

-- ---- what stands around a piece

-- a cell of the name, which is the first of its args
abbrev pub is_in_cell : (cell bytes : List ℕ) (ps : List Piece) → Nest → Bool
is_in_cell cell bytes ps n = calls (codes "cell") bytes ps n.cell && is_name cell bytes ps (n.cell + 2)

-- a pin of the cell
abbrev pub is_in_some_pin : (cell bytes : List ℕ) (ps : List Piece) → Nest → Bool
is_in_some_pin cell bytes ps n = calls (codes "pin") bytes ps n.part && is_in_cell cell bytes ps n

-- the pin of the name, which is one of its args
abbrev pub is_in_pin : (cell pin bytes : List ℕ) (ps : List Piece) → Nest → Bool
is_in_pin cell pin bytes ps n = is_in_some_pin cell bytes ps n && has_arg pin bytes (drop (n.part + 2) ps)

-- ---- what is sought

-- the name of a cell
abbrev pub is_cell_name : (cell bytes : List ℕ) (ps : List Piece) → Nest → (at : ℕ) → Bool
is_cell_name cell bytes ps n at =
    (n.depth == 1) && (at == n.cell + 2) && is_in_cell cell bytes ps n && opens_group bytes (drop at ps)

-- an attribute or a group of a name in the library itself
abbrev pub is_library_item : (name bytes : List ℕ) (ps : List Piece) → Nest → (at : ℕ) → Bool
is_library_item name bytes ps n at = (n.depth == 1) && begins_item bytes ps at && is_word name bytes ps at

-- an attribute or a group of a name in a cell itself
abbrev pub is_cell_item : (cell name bytes : List ℕ) (ps : List Piece) → Nest → (at : ℕ) → Bool
is_cell_item cell name bytes ps n at =
    (n.depth == 2) && begins_item bytes ps at && is_word name bytes ps at && is_in_cell cell bytes ps n

-- the name of a pin of a cell
abbrev pub is_pin_name : (cell pin bytes : List ℕ) (ps : List Piece) → Nest → (at : ℕ) → Bool
is_pin_name cell pin bytes ps n at =
    (n.depth == 2) && nat_lt (n.part + 1) at && is_name pin bytes ps at && is_in_some_pin cell bytes ps n
    && opens_group bytes (drop at ps)

-- an attribute or a group of a name in a pin of a cell
abbrev pub is_pin_item : (cell pin name bytes : List ℕ) (ps : List Piece) → Nest → (at : ℕ) → Bool
is_pin_item cell pin name bytes ps n at =
    (n.depth == 3) && begins_item bytes ps at && is_word name bytes ps at && is_in_pin cell pin bytes ps n

-- an attribute or a group of a name, as a table, in a `timing` group of some pin of a cell
abbrev pub is_timing_item : (cell name bytes : List ℕ) (ps : List Piece) → Nest → (at : ℕ) → Bool
is_timing_item cell name bytes ps n at =
    (n.depth == 4) && begins_item bytes ps at && is_word name bytes ps at && calls (codes "timing") bytes ps n.detail
    && is_in_some_pin cell bytes ps n

-- a simple attribute of a cell itself, or of some pin of it, whose name and value are judged to be bad
abbrev pub is_bad_attribute : (bad : List ℕ → List ℕ → Bool) (cell bytes : List ℕ) (ps : List Piece) → Nest → (at : ℕ) → Bool
is_bad_attribute bad cell bytes ps n at =
    ((n.depth == 2) || (n.depth == 3) && calls (codes "pin") bytes ps n.part) && begins_item bytes ps at && is_mark 58 bytes ps (at + 1)
    && is_in_cell cell bytes ps n && bad (text_at bytes ps at) (text_at bytes ps (at + 2))
