-- What the tree of a library says.

use Rattle.std.specs.Prelude.{ℕ, ◌≡◌, ◌≢◌, ◌⊎◌, nat_lt, Bool, true, false, ◌||◌, ◌&&◌, not, List, [], ◌∷◌, ◌++◌, codes, length, map, filter, unwrap_or, Option, None, Some, Result, MatchResult, ℤ, if◌then◌else◌}
use Rattle.std.specs.Cmp.Lexicographic.{pointwise}
use Rattle.std.specs.List.{filter_map, list_any}
use Rattle.std.specs.Option.{is_some, option_and_then, option_map}
use Rattle.std.specs.Str.{bytes_eq}
use Rattle.gs_design.specs.Alternatives.{same_truth}
use Rattle.gs_design.specs.Cell.{is_gate, pin_name}
use Rattle.gs_design.specs.declared.kind.CellKind.{CellKind}
use Rattle.gs_design.specs.declared.library.Library.{Library}
use Rattle.gs_lib.specs.Draft.{CellLists, DraftLists, bad_table, cell_lists, cell_of, draft_is_bad, draft_missing, draft_of, given_amount, is_bad}
use Rattle.gs_lib.specs.Faults.{or_else}
use Rattle.gs_lib.specs.Profile.{kind_of}
use Rattle.gs_lib.specs.declared.error.LibErr.{LibErr}
use Rattle.gs_lib.specs.declared.error.LibErr.TheVariants as errors
use Rattle.gs_lib.specs.declared.error.What.{What}
use Rattle.gs_lib.specs.declared.error.What.TheVariants as missing
use Rattle.gs_libcell.specs.Attribute.{group_in, last_complex, last_simple}
use Rattle.gs_libcell.specs.Number.{amount_in}
use Rattle.gs_libcell.specs.Pin.{pins_in}
use Rattle.gs_libcell.specs.Template.{Frame}
use Rattle.gs_libcell.specs.Unit.{Tens, is_unit, load_tens, scale, time_tens}
use Rattle.gs_libcell.specs.declared.pin.NamedPin.{NamedPin}
use Rattle.gs_libtree.specs.declared.tree.Item.{Item}
use Rattle.gs_libtree.specs.declared.tree.Node.{Node}

-- ---- units

-- the units of time and of capacitance, where they are there and of their forms
abbrev pub time_unit : List Item → Option ℕ
time_unit items = option_and_then time_tens (last_simple (codes "time_unit") items)

abbrev pub load_unit : List Item → Option ℕ
load_unit items = option_and_then load_tens (last_complex (codes "capacitive_load_unit") items)

abbrev pub tens_of_items : List Item → Tens
tens_of_items items = record { time = unwrap_or (time_unit items) 0; load = unwrap_or (load_unit items) 0 }

-- the unit of leakage, empty where it is missing
abbrev pub leak_unit : List Item → List ℕ
leak_unit items = unwrap_or (last_simple (codes "leakage_power_unit") items) []

abbrev pub is_unit_by : Option (List ℕ) → Bool
is_unit_by None = true
is_unit_by (Some text) = is_unit text

abbrev pub slew_default : List Item → Option ℤ
slew_default items = given_amount (amount_in (codes "default_max_transition") (tens_of_items items).time items)

abbrev pub frame_of : List Item → Frame
frame_of items = record { units = tens_of_items items; items = items }

-- ---- cells

-- what a cell of these pins says; none where it is passed over
abbrev pub draft_with : Frame → Node → List NamedPin → Option DraftLists
draft_with lib cell pins = option_map (draft_of lib cell pins) (kind_of cell pins)

abbrev pub draft_by : Frame → Option Node → Option DraftLists
draft_by lib None = None
draft_by lib (Some cell) = draft_with lib cell (pins_in lib.units cell.items)

-- what the cells of the profile say, in the order of the file
abbrev pub drafts_in : Frame → List Item → List DraftLists
drafts_in lib items = filter_map (λ i. draft_by lib (group_in (codes "cell") i)) items

-- ---- alternatives

-- the same test as for cells with their tables: unmarked gates with one footprint, the same pin names and one truth table
abbrev pub is_sizable_lists : CellLists → Bool
is_sizable_lists c = not c.marked && is_gate c.kind

abbrev pub same_pins_lists : CellLists → CellLists → Bool
same_pins_lists a b = pointwise bytes_eq (map pin_name a.pins) (map pin_name b.pins)

abbrev pub alike_lists : CellLists → CellLists → Bool
alike_lists a b =
    (is_sizable_lists a && is_sizable_lists b) && (bytes_eq a.footprint b.footprint && (same_pins_lists a b && same_truth a.kind b.kind))

-- some cell has more than 1,024 that may take its place, itself among them
abbrev pub has_large_class : List CellLists → Bool
has_large_class cells = list_any (λ c. nat_lt 1024 (length (filter (alike_lists c) cells))) cells

-- ---- refusals, in their order

abbrev pub when : Bool → LibErr → Option LibErr
when true e = Some e
when false e = None

abbrev pub not_there : {X : Type 0} → Option X → Bool
not_there o = not (is_some o)

-- the unit of time or of capacitance is missing
abbrev pub lacks_units : List Item → Bool
lacks_units items = not_there (last_simple (codes "time_unit") items) || not_there (last_complex (codes "capacitive_load_unit") items)

-- a unit isn't of its form
abbrev pub has_bad_units : List Item → Bool
has_bad_units items =
    not_there (time_unit items) || (not_there (load_unit items) || not (is_unit_by (last_simple (codes "leakage_power_unit") items)))

-- of the library itself
abbrev pub header_fault : Node → Option LibErr
header_fault root =
    or_else (when (not (bytes_eq (codes "library") root.name)) (errors.Missing [] missing.Library))
    (or_else (when (lacks_units root.items) errors.NoUnit)
    (or_else (when (has_bad_units root.items) errors.BadUnit)
    (when (is_bad (amount_in (codes "default_max_transition") (tens_of_items root.items).time root.items)) (errors.BadNumber []))))

-- of a cell by itself
abbrev pub part_fault : DraftLists → Option LibErr
part_fault d =
    or_else (option_map (errors.Missing d.name) (draft_missing d))
    (or_else (when (draft_is_bad d) (errors.BadNumber d.name)) (option_map (errors.BadTable d.name) (bad_table 0 d.timings)))

-- of a cell, whose name may not be among those of earlier ones
abbrev pub draft_fault : (seen : List (List ℕ)) → DraftLists → Option LibErr
draft_fault seen d = or_else (when (list_any (bytes_eq d.name) seen) (errors.TwoCells d.name)) (part_fault d)

-- of the cells, one by one
abbrev pub drafts_fault : (seen : List (List ℕ)) → List DraftLists → Option LibErr
drafts_fault seen [] = None
drafts_fault seen (d ∷ ds) = or_else (draft_fault seen d) (drafts_fault (seen ++ d.name ∷ []) ds)

-- of all cells together
abbrev pub count_fault : List CellLists → Option LibErr
count_fault cells = when (nat_lt 65535 (length cells) || has_large_class cells) errors.TooMany

-- the cells of a library
abbrev pub cells_in : List Item → List CellLists
cells_in items = map cell_of (drafts_in (frame_of items) items)

-- the first refusal that stands
abbrev pub first_fault : Node → Option LibErr
first_fault root =
    or_else (header_fault root)
    (or_else (drafts_fault [] (drafts_in (frame_of root.items) root.items)) (count_fault (cells_in root.items)))

-- ---- the library

-- a library with the lists of its tables
pub record LibraryLists : Type 0 where
  pub units : Tens
  pub leak_unit : List ℕ
  pub slew_default : Option ℤ
  pub cells : List CellLists

abbrev pub library_lists : Library → LibraryLists
library_lists l = record {
  units = scale l.units;
  leak_unit = l.leak_unit;
  slew_default = l.slew_default;
  cells = map cell_lists l.cells;
}

-- the tree has no fault, and these are its units and its cells
pub record LibraryOf (root : Node) (l : LibraryLists) : Type 0 where
  pub faultless : first_fault root ≡ None
  pub units : l.units ≡ tens_of_items root.items
  pub leak : l.leak_unit ≡ leak_unit root.items
  pub slew : l.slew_default ≡ slew_default root.items
  pub cells : l.cells ≡ cells_in root.items

-- an error other than want of memory is this fault
abbrev pub Refuses : Option LibErr → LibErr → Type 0
Refuses o e = e ≢ errors.Mem → o ≡ Some e

-- what is answered has no fault, and an error is the fault
abbrev pub Checks : {T : Type 0} → Option LibErr → Result T LibErr → Type 0
Checks o r = MatchResult r (λ _. o ≡ None) (λ e. Refuses o e)

-- the library is the tree's, each of its tables seen as its lists
abbrev pub IsLibraryOf : Node → Library → Type 0
IsLibraryOf root l = LibraryOf root (library_lists l)

-- the cause of a refusal: it is the first that stands. Want of memory needs none.
abbrev pub HasCause : Node → LibErr → Type 0
HasCause root e = Refuses (first_fault root) e
