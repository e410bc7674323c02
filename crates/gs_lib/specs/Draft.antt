-- What a cell of the profile says, before it is judged; which of it is missing or bad; and the cell that it makes.

use Rattle.std.specs.Prelude.{ℕ, ◌+◌, ◌==◌, min, Bool, true, false, ◌||◌, ◌&&◌, List, [], ◌∷◌, ◌++◌, codes, map, filter, unwrap_or, Option, None, Some, ℤ, pos, if◌then◌else◌}
use Rattle.std.specs.List.{flat_map, list_any}
use Rattle.gs_design.specs.declared.arc.Sense.{Sense}
use Rattle.gs_design.specs.declared.arc.TimingArc.{TimingArc}
use Rattle.gs_design.specs.declared.cell.Cell.{Cell}
use Rattle.gs_design.specs.declared.kind.CellKind.{CellKind}
use Rattle.gs_design.specs.declared.pin.CellPin.{CellPin}
use Rattle.gs_design.specs.declared.pin.Role.{Role}
use Rattle.gs_design.specs.declared.pin.Role.TheVariants as role
use Rattle.gs_lib.specs.Faults.{first_some, or_else}
use Rattle.gs_lib.specs.Profile.{inputs_in_order, is_flop, is_input, is_output, output_items}
use Rattle.gs_lib.specs.declared.draft.Draft.{Draft}
use Rattle.gs_lib.specs.declared.error.What.{What}
use Rattle.gs_lib.specs.declared.error.What.TheVariants.{Leakage, Capacitance, RelatedPin, CellRise, CellFall, RiseTransition, FallTransition}
use Rattle.gs_libcell.specs.Attribute.{label_of, last_simple}
use Rattle.gs_libcell.specs.Grid.{GridLists, absent, bad, given, table_lists}
use Rattle.gs_libcell.specs.Number.{amount_in}
use Rattle.gs_libcell.specs.Pin.{is_true, pins_in}
use Rattle.gs_libcell.specs.Template.{Frame}
use Rattle.gs_libcell.specs.Timing.{TimingLists, timing_lists, timings_in}
use Rattle.gs_libcell.specs.declared.grid.Lists.{Lists}
use Rattle.gs_libcell.specs.declared.number.Amount.{Amount}
use Rattle.gs_libcell.specs.declared.number.Amount.TheVariants as amount
use Rattle.gs_libcell.specs.declared.pin.Direction.{Direction}
use Rattle.gs_libcell.specs.declared.pin.Direction.TheVariants.{Input, Output, Other}
use Rattle.gs_libcell.specs.declared.pin.NamedPin.{NamedPin}
use Rattle.gs_libtree.specs.declared.tree.Node.{Node}

-- what a cell says: its pins as they stand in the file, its inputs in order, and its `timing` groups that aren't passed over
pub record DraftLists : Type 0 where
  pub name : List ℕ
  pub footprint : List ℕ
  pub leakage : Amount
  pub area : Amount
  pub marked : Bool
  pub flop : Bool
  pub kind : CellKind
  pub pins : List NamedPin
  pub inputs : List NamedPin
  pub timings : List TimingLists

abbrev pub draft_lists : Draft → DraftLists
draft_lists d = record {
  name = d.name;
  footprint = d.footprint;
  leakage = d.leakage;
  area = d.area;
  marked = d.marked;
  flop = d.flop;
  kind = d.kind;
  pins = d.pins;
  inputs = d.inputs;
  timings = map timing_lists d.timings;
}

-- what a cell says that is read as this kind
abbrev pub draft_of : Frame → Node → List NamedPin → CellKind → DraftLists
draft_of lib cell pins kind = record {
  name = label_of cell;
  footprint = unwrap_or (last_simple (codes "cell_footprint") cell.items) [];
  leakage = amount_in (codes "cell_leakage_power") 0 cell.items;
  area = amount_in (codes "area") 0 cell.items;
  marked = is_true (codes "dont_touch") cell.items || is_true (codes "dont_use") cell.items;
  flop = is_flop cell.items;
  kind = kind;
  pins = pins;
  inputs = inputs_in_order pins;
  timings = timings_in lib (is_flop cell.items) (inputs_in_order pins) (output_items cell.items);
}

-- ---- what is missing

abbrev pub amount_missing : What → Amount → Option What
amount_missing what amount.Absent = Some what
amount_missing what amount.Bad = None
amount_missing what (amount.Is m) = None

abbrev pub table_missing : What → GridLists → Option What
table_missing what absent = Some what
table_missing what bad = None
table_missing what (given lists) = None

-- a `related_pin` that names no input counts as missing
abbrev pub related_missing : (related : List ℕ) → Option What
related_missing [] = Some RelatedPin
related_missing (p ∷ ps) = None

abbrev pub tables_missing : TimingLists → Option What
tables_missing t =
    or_else (table_missing CellRise t.cell_rise)
    (or_else (table_missing CellFall t.cell_fall)
    (or_else (table_missing RiseTransition t.rise_transition) (table_missing FallTransition t.fall_transition)))

abbrev pub timing_missing : TimingLists → Option What
timing_missing t = or_else (related_missing t.related) (tables_missing t)

abbrev pub cap_missing_by : Direction → Amount → Option What
cap_missing_by Input cap = amount_missing Capacitance cap
cap_missing_by Output cap = None
cap_missing_by Other cap = None

abbrev pub cap_missing : NamedPin → Option What
cap_missing p = cap_missing_by p.facts.direction p.facts.cap

-- first the leakage, then the capacitances of the inputs in file order, then what each `timing` group lacks
abbrev pub draft_missing : DraftLists → Option What
draft_missing d =
    or_else (amount_missing Leakage d.leakage) (or_else (first_some cap_missing d.pins) (first_some timing_missing d.timings))

-- ---- numbers that are none

abbrev pub is_bad : Amount → Bool
is_bad amount.Absent = false
is_bad amount.Bad = true
is_bad (amount.Is m) = false

abbrev pub load_is_bad : Direction → (cap max_cap : Amount) → Bool
load_is_bad Input cap max_cap = is_bad cap
load_is_bad Output cap max_cap = is_bad max_cap
load_is_bad Other cap max_cap = false

abbrev pub pin_is_bad : NamedPin → Bool
pin_is_bad p = is_bad p.facts.max_transition || load_is_bad p.facts.direction p.facts.cap p.facts.max_cap

-- a number that is read outside of the tables is no decimal, is negative or is out of range
abbrev pub draft_is_bad : DraftLists → Bool
draft_is_bad d = is_bad d.leakage || (is_bad d.area || list_any pin_is_bad d.pins)

-- ---- tables that are none

abbrev pub grid_is_bad : GridLists → Bool
grid_is_bad absent = false
grid_is_bad bad = true
grid_is_bad (given lists) = false

-- a number of tables stays at 2^32 - 1, its greatest value, once it is there
abbrev pub further : ℕ → ℕ → ℕ
further i k = min (i + k) 4294967295

-- the number of the first bad table of a group, whose first table has the number i
abbrev pub bad_table_in : ℕ → TimingLists → Option ℕ
bad_table_in i t =
    if grid_is_bad t.cell_rise then Some i
    else if grid_is_bad t.cell_fall then Some (further i 1)
    else if grid_is_bad t.rise_transition then Some (further i 2)
    else if grid_is_bad t.fall_transition then Some (further i 3)
    else None

-- the same of groups, four tables in each
abbrev pub bad_table : ℕ → List TimingLists → Option ℕ
bad_table i [] = None
bad_table i (t ∷ ts) = or_else (bad_table_in i t) (bad_table (further i 4) ts)

-- ---- the cell

-- a number that is given, and 0 where it isn't
abbrev pub given_amount : Amount → Option ℤ
given_amount amount.Absent = None
given_amount amount.Bad = None
given_amount (amount.Is m) = Some m

abbrev pub amount_or_zero : Amount → ℤ
amount_or_zero a = unwrap_or (given_amount a) (pos 0)

-- input number i of a flip-flop is named by an arc
abbrev pub is_related : ℕ → List TimingLists → Bool
is_related i timings = list_any (λ (t : TimingLists). list_any (λ p. p == i) t.related) timings

-- of a flip-flop, an input that is marked as a clock or that an arc names
abbrev pub role_of : (flop : Bool) → List TimingLists → ℕ → NamedPin → Role
role_of flop timings i p = if flop && (p.facts.clock || is_related i timings) then role.Clock else role.Input

abbrev pub input_pin : Role → NamedPin → CellPin
input_pin r p = record {
  name = p.name;
  role = r;
  cap = amount_or_zero p.facts.cap;
  slew_bound = given_amount p.facts.max_transition;
  load_bound = None;
}

abbrev pub output_pin : NamedPin → CellPin
output_pin p = record {
  name = p.name;
  role = role.Output;
  cap = pos 0;
  slew_bound = given_amount p.facts.max_transition;
  load_bound = given_amount p.facts.max_cap;
}

-- inputs from number i on
abbrev pub input_pins : (flop : Bool) → List TimingLists → ℕ → List NamedPin → List CellPin
input_pins flop timings i [] = []
input_pins flop timings i (p ∷ ps) = input_pin (role_of flop timings i p) p ∷ input_pins flop timings (i + 1) ps

-- the inputs in order, and then the output
abbrev pub pins_of_draft : DraftLists → List CellPin
pins_of_draft d = input_pins d.flop d.timings 0 d.inputs ++ map output_pin (filter is_output d.pins)

-- an arc with the lists of its tables
pub record ArcLists : Type 0 where
  pub pin : ℕ
  pub sense : Sense
  pub cell_rise : Lists
  pub cell_fall : Lists
  pub rise_transition : Lists
  pub fall_transition : Lists

abbrev pub arc_lists : TimingArc → ArcLists
arc_lists a = record {
  pin = a.pin;
  sense = a.sense;
  cell_rise = table_lists a.cell_rise;
  cell_fall = table_lists a.cell_fall;
  rise_transition = table_lists a.rise_transition;
  fall_transition = table_lists a.fall_transition;
}

abbrev pub grid_is_given : GridLists → Bool
grid_is_given absent = false
grid_is_given bad = false
grid_is_given (given lists) = true

-- a group with its four tables
abbrev pub has_tables : TimingLists → Bool
has_tables t = (grid_is_given t.cell_rise && grid_is_given t.cell_fall) && (grid_is_given t.rise_transition && grid_is_given t.fall_transition)

abbrev pub lists_given : GridLists → Lists
lists_given absent = record { xs = []; ys = []; zs = [] }
lists_given bad = record { xs = []; ys = []; zs = [] }
lists_given (given lists) = lists

abbrev pub arc_of : TimingLists → (pin : ℕ) → ArcLists
arc_of t p = record {
  pin = p;
  sense = t.sense;
  cell_rise = lists_given t.cell_rise;
  cell_fall = lists_given t.cell_fall;
  rise_transition = lists_given t.rise_transition;
  fall_transition = lists_given t.fall_transition;
}

-- an arc for each input that a group names
abbrev pub arcs_of : TimingLists → List ArcLists
arcs_of t = map (arc_of t) t.related

-- a cell with the lists of its tables
pub record CellLists : Type 0 where
  pub name : List ℕ
  pub footprint : List ℕ
  pub leakage : ℤ
  pub area : ℤ
  pub marked : Bool
  pub kind : CellKind
  pub pins : List CellPin
  pub arcs : List ArcLists

abbrev pub cell_lists : Cell → CellLists
cell_lists c = record {
  name = c.name;
  footprint = c.footprint;
  leakage = c.leakage;
  area = c.area;
  marked = c.marked;
  kind = c.kind;
  pins = c.pins;
  arcs = map arc_lists c.arcs;
}

-- the cell of a draft in which nothing is missing or bad
abbrev pub cell_of : DraftLists → CellLists
cell_of d = record {
  name = d.name;
  footprint = d.footprint;
  leakage = amount_or_zero d.leakage;
  area = amount_or_zero d.area;
  marked = d.marked;
  kind = d.kind;
  pins = pins_of_draft d;
  arcs = flat_map arcs_of d.timings;
}
