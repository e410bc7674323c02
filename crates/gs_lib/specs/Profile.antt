-- Which cells are read, and as what.
--
-- A cell is passed over for one of seven reasons, each of which is a definition of its own here.

use Rattle.std.specs.Prelude.{ℕ, Bool, true, false, not, ◌||◌, ◌&&◌, ◌==◌, nat_lt, List, [], ◌∷◌, map, filter, fold, length, codes, unwrap_or, Option, None, Some, Result, Ok, Err, if◌then◌else◌}
use Rattle.std.specs.BTreeMap.{insert_entry}
use Rattle.std.specs.Cmp.Lexicographic.{slice_cmp}
use Rattle.std.specs.List.{list_any}
use Rattle.std.specs.Option.{is_some}
use Rattle.std.specs.Ordering.{nat_cmp}
use Rattle.std.specs.Str.{bytes_eq}
use Rattle.gs_design.specs.declared.kind.CellKind.{CellKind}
use Rattle.gs_design.specs.declared.kind.CellKind.TheVariants.{Gate, Flop}
use Rattle.gs_expr.specs.Machine.{outcome}
use Rattle.gs_expr.specs.declared.error.ExprErr.{ExprErr}
use Rattle.gs_lib.specs.Faults.{first_some}
use Rattle.gs_libcell.specs.Attribute.{group_in, label_of, last_group, last_simple}
use Rattle.gs_libcell.specs.Pin.{direction_by, name_of, named}
use Rattle.gs_libcell.specs.Text.{unfolded}
use Rattle.gs_libcell.specs.Timing.{is_read}
use Rattle.gs_libcell.specs.declared.pin.Direction.{Direction}
use Rattle.gs_libcell.specs.declared.pin.Direction.TheVariants.{Input, Output, Other}
use Rattle.gs_libcell.specs.declared.pin.NamedPin.{NamedPin}
use Rattle.gs_libcell.specs.declared.pin.PinFacts.{PinFacts}
use Rattle.gs_libtree.specs.declared.tree.Item.{Item, out-Item}
use Rattle.gs_libtree.specs.declared.tree.Item.TheOpen.{Item-F}
use Rattle.gs_libtree.specs.declared.tree.Node.{Node}
use Rattle.gs_text.specs.Bytes.{is_white}

-- ---- pins

abbrev pub goes_in : Direction → Bool
goes_in Input = true
goes_in Output = false
goes_in Other = false

abbrev pub goes_out : Direction → Bool
goes_out Input = false
goes_out Output = true
goes_out Other = false

abbrev pub is_input : NamedPin → Bool
is_input p = goes_in p.facts.direction

abbrev pub is_output : NamedPin → Bool
is_output p = goes_out p.facts.direction

-- the inputs, in byte order of their names
abbrev pub entries_in_order : List NamedPin → List (List ℕ × PinFacts)
entries_in_order pins = fold (λ es p. insert_entry (slice_cmp nat_cmp) es p.name p.facts) [] pins

abbrev pub pin_of_entry : List ℕ × PinFacts → NamedPin
pin_of_entry e = record { name = e.0; facts = e.1 }

abbrev pub inputs_in_order : List NamedPin → List NamedPin
inputs_in_order pins = map pin_of_entry (entries_in_order (filter is_input pins))

-- the items of the group of the cell's output
abbrev pub output_group : Option Node → Option Node
output_group None = None
output_group (Some g) =
    if length g.args == 0 then None
    else if goes_out (direction_by (last_simple (codes "direction") g.items)) then Some g
    else None

abbrev pub output_node : List Item → Option Node
output_node items = first_some (λ i. output_group (group_in (codes "pin") i)) items

abbrev pub items_of : Option Node → List Item
items_of None = []
items_of (Some g) = g.items

abbrev pub output_items : List Item → List Item
output_items items = items_of (output_node items)

-- ---- the reasons

-- the name is empty or holds white
abbrev pub is_broken : (name : List ℕ) → Bool
is_broken name = length name == 0 || list_any is_white name

-- a group `latch`, `latch_bank`, `ff_bank`, `statetable`, `bus` or `bundle`
abbrev pub is_foreign_name : List ℕ → Bool
is_foreign_name n =
    bytes_eq (codes "latch") n || (bytes_eq (codes "latch_bank") n || (bytes_eq (codes "ff_bank") n
    || (bytes_eq (codes "statetable") n || (bytes_eq (codes "bus") n || bytes_eq (codes "bundle") n))))

abbrev pub foreign_in : Item-F Item Node → Bool
foreign_in (Item-F.Simple n v) = false
foreign_in (Item-F.Complex n vs) = false
foreign_in (Item-F.Sub g) = is_foreign_name g.name

abbrev pub is_foreign : Item → Bool
is_foreign i = foreign_in (out-Item i)

-- such a group is in the cell
abbrev pub has_foreign_group : List Item → Bool
has_foreign_group items = list_any is_foreign items

-- a pin's direction is missing, or is neither `input` nor `output`
abbrev pub is_odd : NamedPin → Bool
is_odd p = not (is_input p || is_output p)

abbrev pub has_odd_direction : List NamedPin → Bool
has_odd_direction pins = list_any is_odd pins

-- no input, more than six inputs, or not one output (inputs of one name count once here: they are a reason of their own)
abbrev pub has_odd_count : (pins inputs : List NamedPin) → Bool
has_odd_count pins inputs =
    length inputs == 0 || (nat_lt 6 (length inputs) || not (length (filter is_output pins) == 1))

-- one of the pins has the name
abbrev pub has_pin : (name : List ℕ) → List NamedPin → Bool
has_pin name pins = list_any (λ (q : NamedPin). bytes_eq name q.name) pins

-- two pins of one name
abbrev pub has_twins : List NamedPin → Bool
has_twins [] = false
has_twins (p ∷ ps) = has_pin p.name ps || has_twins ps

-- an input has the name of an output, which is a case of this
abbrev pub is_twin_of : (inputs : List NamedPin) → NamedPin → Bool
is_twin_of inputs q = is_output q && has_pin q.name inputs

abbrev pub has_mixed_twins : (pins inputs : List NamedPin) → Bool
has_mixed_twins pins inputs = list_any (is_twin_of inputs) pins

-- a flip-flop has a group `ff`
abbrev pub is_flop : List Item → Bool
is_flop items = is_some (last_group (codes "ff") items)

-- the table that was read, where there is one
abbrev pub table_read : Result ℕ ExprErr → Option ℕ
table_read (Ok table) = Some table
table_read (Err e) = None

-- the table of a gate by its output's function over its inputs, a continuation being blanks; none where the function is missing or
-- is refused (no text of a tree has more bytes than 2^28)
abbrev pub table_by : (inputs : List NamedPin) → Option (List ℕ) → Option ℕ
table_by inputs None = None
table_by inputs (Some text) =
    if nat_lt 268435456 (length text) then None else table_read (outcome (unfolded text) (map name_of inputs))

abbrev pub table_of : (inputs : List NamedPin) → (output : List Item) → Option ℕ
table_of inputs output = table_by inputs (last_simple (codes "function") output)

-- a `timing` group of type `rising_edge`
abbrev pub is_edge_by : Option Node → Bool
is_edge_by None = false
is_edge_by (Some g) = is_read true g

abbrev pub has_edge : (output : List Item) → Bool
has_edge output = list_any (λ i. is_edge_by (group_in (codes "timing") i)) output

-- ---- the profile

-- a cell's name, groups or pins are outside of the profile
abbrev pub has_odd_form : Node → (pins inputs : List NamedPin) → Bool
has_odd_form cell pins inputs =
    is_broken (label_of cell) || (has_foreign_group cell.items || (has_odd_direction pins
    || (has_odd_count pins inputs || (has_mixed_twins pins inputs || has_twins pins))))

abbrev pub gate_by : Option ℕ → Option CellKind
gate_by None = None
gate_by (Some table) = Some (Gate table)

-- as what a cell of good form is read: none where it is passed over
abbrev pub kind_by : (flop : Bool) → (inputs : List NamedPin) → (output : List Item) → Option CellKind
kind_by true inputs output = if has_edge output then Some Flop else None
kind_by false inputs output = gate_by (table_of inputs output)

-- as what a cell is read; none where it is passed over
abbrev pub kind_of : Node → List NamedPin → Option CellKind
kind_of cell pins =
    if has_odd_form cell pins (inputs_in_order pins) then None
    else kind_by (is_flop cell.items) (inputs_in_order pins) (output_items cell.items)
